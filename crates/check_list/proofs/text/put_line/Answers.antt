-- `check_list::text::put_line`: a digit more with each turn, and the newline. Assumes nothing.
use Rattle.std.proofs.Common.{◌≡◌, ◌+◌, ◌-◌, ◌*◌, ◌/◌, ◌^◌, [], ◌∷◌, ◌++◌, sym, arith}
use native.Mathlib.Nat.{div-one}
use native.Mathlib.Numerals.{add-one}
use Rattle.theory.specs.Text.{ascii, hex, line}
use Rattle.theory.specs.program.Numerals.{hex_next}
use Rattle.check_list.proofs.Filled.{written_none, written_as, written_byte}
use Rattle.check_list.proofs.text.put_line.Goals as goal

pub loop-i-init : goal.loop-i-init
unfolding hex
loop-i-init c = written_none _

pub loop-i-preserved : goal.loop-i-preserved
loop-i-preserved c =
    let l = c.loop-i in
    let f = c.args.f in
    let e : hex (l.i + 1) (f / 2 ^ (64 - 4 * (l.i + 1))) ≡ hex l.i (f / 2 ^ (64 - 4 * l.i)) ++ (c.digit.result ∷ []) = rw (add-one l.i, c.digit.ensures) (hex_next f l.i (omega arith)) in
    written_as _ _ _ _ (written_byte _ _ _ _ l.invariant c.digit.result (omega arith)) _ (sym e)

pub returns : goal.returns
unfolding line ascii
returns c =
    let l = c.loop-i in
    let f = c.args.f in
    let i : l.i ≡ 16 = omega arith in
    let e : hex l.i (f / 2 ^ (64 - 4 * l.i)) ≡ hex 16 f = rw (i, div-one f) in
    written_byte _ _ _ _ (rw i at (written_as _ _ _ _ l.invariant (hex 16 f) e)) 10 c.requires
