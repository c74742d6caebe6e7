-- `filter::runs::next_carry`: what the walk to the last slot of the block told (specs/Offsets). Assumes nothing.
use native.Mathlib.Omega.{arith}
use Rattle.theory.specs.Shape.{blocks as blocks-of}
use Rattle.theory.specs.images.Sizes.{slots_blocks}
use Rattle.filter.specs.Offsets.{next_found, next_large}
use Rattle.filter.proofs.runs.next_carry.Goals as goal

pub returns-then-slots-next : goal.returns-then-slots-next
returns-then-slots-next c = next_large _ (blocks-of c.args.lent.now.shape.qbits) _ (slots_blocks _ c.args.lent.now.whole.widths.low) _ _ _ c.in_ok-s.ensures (omega (arith, c.slots.ensures.0))

pub returns : goal.returns
returns c = next_found _ (blocks-of c.args.lent.now.shape.qbits) _ (slots_blocks _ c.args.lent.now.whole.widths.low) _ _ _ c.in_ok-s.ensures (omega (arith, c.slots.ensures.0))
