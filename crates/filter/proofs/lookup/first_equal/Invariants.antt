-- `filter::lookup::first_equal`: the invariant is that k places of the run are passed, none of them equal (specs/Scan). Assumes nothing.
use Prim.Native.Nat.{◌-◌, ◌<◌}
use Rattle.layout.specs.Whole.{views_in}
use Rattle.filter.specs.Scan.{Passing}
use Rattle.filter.proofs.lookup.first_equal.Given as goal

abbrev pub invariant-loop-s : goal.invariant-loop-s
invariant-loop-s l = (l.k < l.slots) × Passing l.slots (views_in l.lent.shape l.lent.buf.now) l.at l.rem l.k

abbrev pub decreases-loop-s : goal.decreases-loop-s
decreases-loop-s l = l.slots - l.k
