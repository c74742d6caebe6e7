-- `growth::merge::merge`: self's number, other's, or the merge of two sound filters. Assumes nothing.
use mathlib.Core.Path.{refl}
use Rattle.layout.specs.Refusals.{handed_on}
use Rattle.layout.specs.Judging.{both_refused, both_sound}
use Rattle.growth.proofs.merge.merge.Goals as goal

pub returns-in_err-check_both : goal.returns-in_err-check_both
returns-in_err-check_both c =
    let a = c.args in
    rw (handed_on _ c.from_residual.ensures.1) (both_refused a.n _ a.m _ _ _ _ c.in_err-check_both.ensures (refl, refl))

pub merge_sound-requires : goal.merge_sound-requires
merge_sound-requires c = (c.in_ok-check_both.ensures.0.none, c.in_ok-check_both.ensures.1.none)

pub returns : goal.returns
returns c = both_sound c.args.n _ c.args.m _ _ _ c.in_ok-check_both.ensures c.merge_sound.ensures
