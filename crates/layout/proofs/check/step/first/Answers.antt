-- `layout::check::step::first`: slot by slot, what the queue does with the bits. Assumes nothing.
use Rattle.std.proofs.Common.{arith}
use Rattle.theory.specs.check.Loops.{first_begin, first_next}
use Rattle.layout.proofs.check.step.first.Goals as goal

pub loop-i-init : goal.loop-i-init
loop-i-init c = first_begin _ _ _ _

pub loop-i-preserved : goal.loop-i-preserved
loop-i-preserved c = first_next _ _ _ _ _ _ _ _ _ _ _ (omega arith) c.bit-o.ensures.0 c.bit-o.ensures.1 c.bit-e.ensures.0 c.bit-e.ensures.1 c.over-owed.ensures c.over-pending.ensures c.loop-i.invariant
