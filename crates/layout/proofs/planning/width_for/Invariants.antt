-- `layout::planning::width_for`: the walk of `width_from`. Assumes nothing.
use Rattle.std.proofs.Common.{◌≡◌, ◌-◌}
use Rattle.theory.specs.Planning.{width_from, needed_qbits}
use Rattle.layout.proofs.planning.width_for.Given as goal

abbrev pub invariant-loop-qbits : goal.invariant-loop-qbits
invariant-loop-qbits l = width_from (59 - l.qbits) l.qbits l.capacity ≡ needed_qbits l.capacity
