-- `filter::runs::nth_runend`: a word a turn. The invariant: what was to be passed from `at` on is what is left from digit `skip` of block k on. Assumes nothing.
use native.Mathlib.Omega.{arith}
use Rattle.theory.specs.reading.Ring.{walk_on, walk_end, walk_bit}
use Rattle.filter.specs.Runs.{slots_counted}
use Rattle.filter.proofs.runs.nth_runend.Goals as goal

pub returns-in-End : goal.returns-in-End
returns-in-End c =
    let h = rw c.runends.ensures at c.in-End.ensures in
    let i = c.loop-k.invariant in
    let w = slots_counted _ _ c.args.lent.now.whole.widths.low c.blocks-blocks.ensures.0 in
    (omega arith, omega arith, walk_bit _ 9 _ _ _ c.loop-k.k c.loop-k.skip c.loop-k.left _ w (omega arith) (omega arith) i.2 _ h.1 h.2, walk_end _ 9 _ _ _ c.loop-k.k c.loop-k.skip c.loop-k.left _ w (omega arith) (omega arith) i.2 _ h.1 h.3)

pub loop-k-preserved : goal.loop-k-preserved
loop-k-preserved c =
    let i = c.loop-k.invariant in
    (omega arith, omega arith, walk_on _ 9 _ _ _ c.loop-k.k c.loop-k.skip c.loop-k.left _ (slots_counted _ _ c.args.lent.now.whole.widths.low c.blocks-blocks.ensures.0) (omega arith) (omega arith) i.2 _ (rw c.runends.ensures at c.in-On.ensures))
