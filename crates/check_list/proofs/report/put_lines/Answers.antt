-- `check_list::report::put_lines`: a line more with each turn, for which there is room. Assumes nothing.
use Rattle.std.proofs.Common.{◌≡◌, ◌<◌, length, ap, sym, ◌∙◌, arith}
use lib.ListN.{take}
use lib.Seq.{take_all}
use native.Mathlib.Numerals.{add-one}
use Rattle.theory.specs.Text.{lines}
use Rattle.theory.specs.program.Lines.{lines_next}
use Rattle.theory.proofs.program.TextByDue.{same_held}
use Rattle.filter.specs.Places.{place_of}
use Rattle.check_list.proofs.Filled.{written_none, written_as, written_count, written_more}
use Rattle.check_list.proofs.report.put_lines.Goals as goal

pub loop-k-init : goal.loop-k-init
unfolding lines
loop-k-init c h =
    (c.requires.0.first ∙ ap (λ l. place_of c.args.n.qbits c.args.n.rbits l 0) (same_held _ _ _ _ _ c.requires.0.sound h), written_none _)

pub loop-k-preserved : goal.loop-k-preserved
loop-k-preserved c h =
    let k = c.loop-k.k in
    let i = c.loop-k.invariant h in
    let more : k < length h.held = omega (arith, h.holds.many) in
    let t = c.put_step-place.ensures h.none h.held h.holds k more i.0 in
    (rw add-one t.0, written_count _ _ _ _ (written_as _ _ _ _ (written_more _ _ _ _ i.1 _ _ _ t.1) _ (rw add-one (sym (lines_next h.held k more)))) _ (omega arith))

pub returns : goal.returns
returns c h =
    let e : take c.loop-k.k h.held ≡ h.held = take_all c.loop-k.k h.held (omega (arith, h.holds.many)) in
    written_count _ _ _ _ (written_as _ _ _ _ (c.loop-k.invariant h).1 _ (ap lines e)) _ (omega arith)
