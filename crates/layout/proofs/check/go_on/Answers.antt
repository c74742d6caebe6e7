-- `layout::check::go_on`: step after step, and no more after two rounds. Assumes nothing.
use Rattle.std.proofs.Common.{arith}
use Rattle.theory.specs.check.Loops.{steps_early}
use Rattle.layout.proofs.check.go_on.Goals as goal

pub returns-then-blocks-at : goal.returns-then-blocks-at
returns-then-blocks-at c =
    let i = c.loop.invariant in
    (steps_early _ _ _ _ _ _ _ i.0 (omega arith) (omega arith), i.1)
