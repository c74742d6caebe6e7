-- `writing::remove::last_shifted`: the invariant is that behind all slots passed something is carried (specs/Shifted). Assumes nothing.
use Rattle.std.proofs.Common.{arith}
use Rattle.theory.specs.images.Sizes.{slots_high}
use Rattle.writing.specs.Shifted.{moving_end, moving_on}
use Rattle.writing.proofs.remove.last_shifted.Goals as goal

pub returns-then-gap-eq1 : goal.returns-then-gap-eq1
returns-then-gap-eq1 c = moving_end _ _ _ c.loop-s.s c.loop-s.invariant.2 _ c.loop-s.invariant.0 (omega arith) c.in_ok-gap.ensures c.if-gap-eq1.true

pub loop-s-preserved : goal.loop-s-preserved
loop-s-preserved c =
    let d = c.in_ok-gap.ensures in
    let high = slots_high _ c.args.lent.now.whole.widths.high in
    (omega (arith, d.bound), omega (arith, d.bound), moving_on _ _ _ c.loop-s.s c.loop-s.invariant.2 _ d)
