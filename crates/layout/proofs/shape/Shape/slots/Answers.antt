-- `layout::shape::Shape::slots`. Assumes nothing.
use Rattle.theory.specs.Shape.{slots}
use Rattle.theory.specs.images.Sizes.{slots_low, slots_high}
use Rattle.layout.proofs.shape.Shape.slots.Goals as goal

pub returns : goal.returns
unfolding slots
returns c = (c.pow2.ensures.0, rw c.pow2.ensures.0 (slots_low _ c.requires.low), rw c.pow2.ensures.0 (slots_high _ c.requires.high))
