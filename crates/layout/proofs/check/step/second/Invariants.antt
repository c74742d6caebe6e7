-- `layout::check::step::second`: slot by slot, what the queue does with the bits, and the tests of each slot. Assumes nothing.
use Prim.Native.Nat.{◌+◌}
use Rattle.theory.specs.check.Step.{block_fault}
use Rattle.theory.specs.check.Buffer.{sight_on}
use Rattle.theory.specs.check.Loops.{SecondLoop}
use Rattle.layout.proofs.check.step.second.Given as goal

abbrev pub invariant-loop-i : goal.invariant-loop-i
invariant-loop-i l =
    let s = sight_on l.lent.shape.qbits l.lent.shape.rbits l.lent.buf.now l.b in
    SecondLoop s l.c.pending l.c.used (l.c.bad + block_fault s l.c.pending) l.i l.pending l.used l.bad l.here
