-- `filter::lookup::count_from`: the invariant is that k places are passed, and how many of them, from `from` on, are equal (specs/Scan). Assumes nothing.
use Prim.Native.Nat.{◌-◌, ◌<◌}
use Rattle.layout.specs.Whole.{views_in}
use Rattle.filter.specs.Scan.{Counting}
use Rattle.filter.proofs.lookup.count_from.Given as goal

abbrev pub invariant-loop-s : goal.invariant-loop-s
invariant-loop-s l = (l.k < l.slots) × Counting l.slots (views_in l.lent.shape l.lent.buf.now) l.at l.from l.rem l.k l.count

abbrev pub decreases-loop-s : goal.decreases-loop-s
decreases-loop-s l = l.slots - l.k
