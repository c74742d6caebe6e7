-- `growth::merge::copy`: the first i bytes are the buffer's. Assumes nothing.
use mathlib.Core.Path.{◌≡◌, sym, ap, ◌∙◌}
use mathlib.Core.List.{◌++◌, ◌∷◌, []}
use native.Mathlib.Numerals.{add-one}
use native.Mathlib.Omega.{arith}
use lib.ListN.{length, take, set, get_or, length-set}
use lib.Seq.{take-suc-set, take-suc, take-length}
use Rattle.growth.proofs.merge.copy.Goals as goal

pub loop-i-preserved : goal.loop-i-preserved
loop-i-preserved c =
    let l = c.loop-i in
    let b = c.args.buf.now in
    let v = get_or b l.i 0 in (
      length-set l.dest l.i v ∙ l.invariant.0,
      ap (λ n. take n (set l.dest l.i v)) (add-one l.i) ∙ take-suc-set l.dest l.i v (omega (arith, l.invariant.0)) ∙ ap (λ z. z ++ (v ∷ [])) l.invariant.1 ∙ sym (take-suc b l.i 0 (omega arith)) ∙ ap (λ n. take n b) (sym (add-one l.i)),
    )

pub returns : goal.returns
returns c =
    let l = c.loop-i in
    let b = c.args.buf.now in
    let e : l.i ≡ length b = omega arith in
    sym (take-length l.dest) ∙ ap (λ n. take n l.dest) (l.invariant.0 ∙ sym e) ∙ l.invariant.1 ∙ ap (λ n. take n b) e ∙ take-length b
