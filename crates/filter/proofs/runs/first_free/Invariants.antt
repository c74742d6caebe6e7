-- `filter::runs::first_free`: the invariant is that all slots passed are used (specs/Offsets). Assumes nothing.
use Prim.Native.Nat.{◌+◌, ◌-◌, ◌^◌, ◌≤◌, ◌<◌}
use Rattle.theory.specs.Shape.{slots as slots-of}
use Rattle.layout.specs.Whole.{views_in}
use Rattle.filter.specs.Offsets.{Walked}
use Rattle.filter.proofs.runs.first_free.Given as goal

abbrev pub invariant-loop-s : goal.invariant-loop-s
invariant-loop-s l = (l.x ≤ l.s) × (l.s < 2 ^ 62) × Walked (slots-of l.lent.shape.qbits) (views_in l.lent.shape l.lent.buf.now) l.x l.s

abbrev pub decreases-loop-s : goal.decreases-loop-s
decreases-loop-s l = l.x + l.slots - l.s
