-- `layout::planning::filter_specs`: numbers 10 and 9, then the specs. `specs_ten` is named on the function as well, so that a right exit in front of these would be found: the edit specs_answer_9_for_10 puts a wrong one there. Assumes nothing.
use Prim.Native.Nat.{◌+◌, ◌≤◌}
use mathlib.Core.Path.{sym, ◌∙◌}
use native.Mathlib.Omega.{arith}
use Rattle.theory.specs.plan.Needed.{needed_low, needed_high}
use Rattle.theory.specs.refusals.PlanRefused.{capacity_due_lem, none_capacity, some_capacity, specs_ten, specs_nine, specs_none}
use Rattle.layout.specs.Refusals.{number_some, handed_on}
use Rattle.layout.proofs.planning.filter_specs.Goals as goal
use Rattle.layout.proofs.planning.filter_specs.Goals.{After-specs_of}

sum : (c : After-specs_of) → c.in_ok-qbits.qbits + c.rbits_for-rbits.result ≤ 64
sum c = omega arith

pub returns-in_err-qbits : goal.returns-in_err-qbits
returns-in_err-qbits c =
    let l = some_capacity _ _ c.in_err-qbits.ensures (number_some _) in
    rw (handed_on _ c.from_residual.ensures.1) (specs_ten _ _ l ∙ sym (capacity_due_lem _ l) ∙ c.in_err-qbits.ensures)

pub overflow_add-qbits : goal.overflow_add-qbits
overflow_add-qbits c = omega (arith, c.in_ok-qbits.ensures.1, needed_high c.args.capacity)

pub returns-then-qbits-rbits-gt64 : goal.returns-then-qbits-rbits-gt64
returns-then-qbits-rbits-gt64 c =
    let f = c.in_ok-qbits.ensures in
    specs_nine _ _ (none_capacity _ f.0) (rw (f.1, c.rbits_for-rbits.ensures.0) at c.if-qbits-rbits-gt64.true)

pub specs_of-requires : goal.specs_of-requires
specs_of-requires c =
    let f = c.in_ok-qbits.ensures in
    record {
      low = rw f.1 (needed_low _);
      high = rw f.1 (needed_high _);
      some = omega arith;
      sum = omega arith;
    }

pub returns : goal.returns
returns c =
    let f = c.in_ok-qbits.ensures in
    let r = c.rbits_for-rbits.ensures.0 in
    (specs_none _ _ (none_capacity _ f.0) (rw (f.1, r) at (sum c)), rw (f.1, r) at c.specs_of.ensures)
