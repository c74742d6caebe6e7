-- `layout::check::go_on`: step after step, and no more after two rounds. Assumes nothing.
use Rattle.std.proofs.Common.{◌≡◌, ◌*◌}
use Rattle.theory.specs.Shape.{blocks}
use Rattle.theory.specs.check.Buffer.{steps_on}
use Rattle.layout.specs.Walk.{cur, Fits}
use Rattle.layout.proofs.check.go_on.Given as goal

abbrev pub invariant-loop : goal.invariant-loop
invariant-loop l = (cur l.at ≡ steps_on l.lent.shape.qbits l.lent.shape.rbits l.lent.buf.now l.counter (cur l.initial.at)) × Fits (2 * blocks l.lent.shape.qbits) l.at
