-- `bits::select::select`: where more than n ones stand, n are cleared and the lowest left is the n-th. Assumes nothing.
use Rattle.std.proofs.Common.{◌-◌, ◌≤◌}
use Rattle.bits.specs.Select.{Cleared}
use Rattle.bits.proofs.select.select.Given as goal

abbrev pub invariant-loop-left : goal.invariant-loop-left
invariant-loop-left l = (l.left ≤ l.n) × Cleared l.x (l.n - l.left) l.y

abbrev pub decreases-loop-left : goal.decreases-loop-left
decreases-loop-left l = l.left
