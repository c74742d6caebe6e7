-- `layout::check::step::distance`: one runend bit after the other, round the end. Assumes nothing.
use Rattle.theory.specs.check.Buffer.{sight_on}
use Rattle.theory.specs.check.Loops.{Far}
use Rattle.layout.proofs.check.step.distance.Given as goal

abbrev pub invariant-loop-d : goal.invariant-loop-d
invariant-loop-d l = Far (sight_on l.lent.shape.qbits l.lent.shape.rbits l.lent.buf.now l.b).runend l.p l.d l.left
