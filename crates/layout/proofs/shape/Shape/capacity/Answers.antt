-- `layout::shape::Shape::capacity`. Assumes nothing.
use Rattle.theory.specs.Shape.{capacity}
use borrow.Author.Rules.{rules}
use Rattle.layout.proofs.shape.Shape.capacity.Goals as goal

pub returns : goal.returns
unfolding capacity
returns c = search rules
