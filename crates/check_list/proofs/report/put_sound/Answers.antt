-- `check_list::report::put_sound`: the first line, and the lines of the fingerprints behind it. Assumes nothing.
use Rattle.std.proofs.Common.{◌≡◌, ◌≤◌, length, ap, le_trans, arith}
use lib.ListN.{length-drop}
use Rattle.theory.specs.Text.{ascii}
use Rattle.theory.specs.Report.{sound}
use Rattle.theory.specs.program.Lines.{lines_length}
use Rattle.theory.specs.program.Numerals.{headline_short}
use Rattle.check_list.proofs.Filled.{written_more, written_length, rest}
use Rattle.check_list.proofs.report.put_sound.Goals as goal

pub put_headline-at-requires : goal.put_headline-at-requires
put_headline-at-requires c = le_trans (headline_short _ c.args.n.len (omega arith) (omega arith)) (omega (arith, c.requires.1))

pub put_lines-requires : goal.put_lines-requires
put_lines-requires c =
    let w = c.put_headline-at.ensures in
    let k : c.put_headline-at.result ≤ 32 = rw w.many (headline_short _ c.args.n.len (omega arith) (omega arith)) in
    let same : length c.put_headline-at.new.out ≡ length c.args.out.now = written_length _ _ _ _ w (omega (arith, k, c.requires.1)) in
    (c.requires.0, omega (arith, k, same, c.requires.1, ap length (rest _ _ _ _ w), length-drop c.put_headline-at.result c.args.out.now))

pub overflow_add-result : goal.overflow_add-result
overflow_add-result c =
    let h = c.requires.0.sound in
    let k : c.put_headline-at.result ≤ 32 = rw c.put_headline-at.ensures.many (headline_short _ c.args.n.len (omega arith) (omega arith)) in
    omega (arith, k, c.requires.1, (c.put_lines.ensures h).many, lines_length h.held, h.holds.many)

pub returns : goal.returns
unfolding sound ascii
returns c h = written_more _ _ _ _ c.put_headline-at.ensures _ _ _ (c.put_lines.ensures h)
