-- `layout::shape::Shape::blocks`. Assumes nothing.
use Rattle.theory.specs.Shape.{blocks}
use borrow.Author.Rules.{rules}
use Rattle.layout.proofs.shape.Shape.blocks.Goals as goal

pub returns : goal.returns
unfolding blocks
returns c = search rules
