-- `growth::rebuild::grow`: 7, or the rebuild at the grown widths. Assumes nothing.
use native.Mathlib.Omega.{arith}
use lib.ListN.{length}
use Rattle.layout.specs.Outcomes.{leaves_refused}
use Rattle.growth.specs.Rebuilding.{grown_to, grow_due, grow_seven, grown_fits, grow_rebuilt}
use Rattle.growth.proofs.rebuild.grow.Goals as goal

pub returns-then-n : goal.returns-then-n
returns-then-n c =
    λ l w.
    let a = c.args in
    leaves_refused (grow_due a.n (length a.dest.now)) (grown_to a.n (length l)) (grown_to a.n (length l)) l a.dest.now 7 (grow_seven a.n (length a.dest.now) c.if-n.true) (omega arith)

pub overflow_sub-grown : goal.overflow_sub-grown
overflow_sub-grown c = omega (arith, (grown_fits c.args.n c.args.buf.now c.requires (omega (arith, c.if-n.false))).1)

pub rebuild_into-requires : goal.rebuild_into-requires
rebuild_into-requires c = (c.requires, (grown_fits c.args.n c.args.buf.now c.requires (omega (arith, c.if-n.false))).0)

pub returns : goal.returns
returns c =
    let a = c.args in
    grow_rebuilt a.n a.buf.now c.requires (omega (arith, c.if-n.false)) a.dest.now c.rebuild_into.result _ c.rebuild_into.ensures
