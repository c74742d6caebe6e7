-- `filter::runs::first_free`: the invariant is that all slots passed are used (specs/Offsets). Assumes nothing.
use native.Mathlib.Omega.{arith}
use Rattle.theory.specs.images.Sizes.{slots_high}
use Rattle.filter.specs.Offsets.{walked_free, walked_on}
use Rattle.filter.proofs.runs.first_free.Goals as goal

pub returns-then-gap-is_runend-eq1 : goal.returns-then-gap-is_runend-eq1
returns-then-gap-is_runend-eq1 c =
    walked_free _ _ _ c.loop-s.s c.loop-s.invariant.2 _ _ c.loop-s.invariant.0 (omega arith) c.in_ok-gap.ensures (rw c.slots-slots.ensures.0 at c.is_runend.ensures.0) c.if-gap-is_runend-eq1.true

pub loop-s-preserved : goal.loop-s-preserved
loop-s-preserved c =
    let d = c.in_ok-gap.ensures in
    let high = slots_high _ c.args.lent.now.whole.widths.high in
    (omega (arith, d.bound), omega (arith, d.bound), walked_on _ _ _ c.loop-s.s c.loop-s.invariant.2 _ _ d (rw c.slots-slots.ensures.0 at c.is_runend.ensures.0) c.if-gap-is_runend-eq1.false)
