-- `layout::planning::needed_qbits`: number 10 exactly above the limit. Assumes nothing.
use native.Mathlib.Omega.{arith}
use Rattle.theory.specs.refusals.PlanRefused.{capacity_due_lem, capacity_none}
use Rattle.layout.proofs.planning.needed_qbits.Goals as goal

pub returns-then-capacity-gt-MAX_CAPACITY : goal.returns-then-capacity-gt-MAX_CAPACITY
returns-then-capacity-gt-MAX_CAPACITY c = capacity_due_lem _ (omega arith)

pub returns : goal.returns
returns c = (capacity_none _ (omega arith), c.width_for.ensures.0)
