-- `layout::check::step::second`: slot by slot, what the queue does with the bits, and the tests of each slot. Assumes nothing.
use Rattle.std.proofs.Common.{arith}
use Rattle.theory.specs.check.Buffer.{sight_on, sees_occupied, sees_runend}
use Rattle.theory.specs.check.Loops.{second_begin, second_next}
use Rattle.layout.proofs.check.step.second.Goals as goal

pub loop-i-init : goal.loop-i-init
loop-i-init c = second_begin _ _ _ _ _ _ (omega (arith, c.either-bad.ensures, c.block_fails.ensures)) c.remainder_on-here.ensures

pub loop-i-preserved : goal.loop-i-preserved
loop-i-preserved c =
    let a = c.args in
    second_next (sight_on a.lent.now.shape.qbits a.lent.now.shape.rbits a.lent.now.buf.now a.b) _ _ _ _ _ _ _ _ _ _ _ _ _ _ _ (omega arith)
    (sees_occupied a.lent.now.shape.qbits a.lent.now.shape.rbits a.b a.lent.now.buf.now c.requires.0 _ _ _ c.occupieds-occupieds.ensures (omega arith) c.bit-o.ensures.0) c.bit-o.ensures.1
    (sees_runend a.lent.now.shape.qbits a.lent.now.shape.rbits a.b a.lent.now.buf.now c.requires.0 _ _ _ c.runends-runends.ensures (omega arith) c.bit-e.ensures.0)
    c.remainder_on-next.ensures c.slot_fails.ensures c.either-bad-in-loop-i.ensures c.either-used.ensures c.over-pending.ensures c.loop-i.invariant
