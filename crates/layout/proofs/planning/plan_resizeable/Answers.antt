-- `layout::planning::plan_resizeable`: numbers 11, 10 and 9, then the widths. Assumes nothing.
use Prim.Native.Nat.{◌+◌, ◌-◌, ◌≤◌}
use mathlib.Core.Path.{◌≡◌, sym, ◌∙◌}
use native.Mathlib.Omega.{arith}
use Rattle.theory.specs.tools.Cases.{by_eq}
use Rattle.theory.specs.Planning.{needed_qbits, planned_rbits}
use Rattle.theory.specs.plan.Needed.{needed_high, needed_mono}
use Rattle.theory.specs.refusals.PlanRefused.{capacity_due_lem, none_capacity, some_capacity, plan_eleven, plan_ten, plan_nine, plan_none, planned_none, planned_some}
use Rattle.layout.specs.Refusals.{number_some, handed_on}
use Rattle.layout.proofs.planning.plan_resizeable.Goals as goal
use Rattle.layout.proofs.planning.plan_resizeable.Goals.{After-max_for, After-rbits_for, After-width_for-qbits}

-- it is no smaller than the width for the initial one
widths : (c : After-width_for-qbits) → c.width_for-qbits.result ≤ c.in_ok-widest.widest
widths c =
    let f = c.in_ok-widest.ensures in
    rw (c.width_for-qbits.ensures.0, f.1) (needed_mono _ _ (omega arith) (none_capacity _ f.0))

-- rbits as planned
rbits : (c : After-rbits_for) → c.rbits_for.result + (c.in_ok-widest.widest - c.width_for-qbits.result) ≡ planned_rbits c.args.initial c.args.most c.args.rate
unfolding planned_rbits
rbits c = rw (c.rbits_for.ensures.0, c.in_ok-widest.ensures.1, c.width_for-qbits.ensures.0)

sum : (c : After-max_for) → c.width_for-qbits.result + (c.rbits_for.result + (c.in_ok-widest.widest - c.width_for-qbits.result)) ≤ 64
sum c = omega arith

pub returns-then-most-initial : goal.returns-then-most-initial
returns-then-most-initial c = plan_eleven _ _ _ c.if-most-initial.true

pub returns-in_err-widest : goal.returns-in_err-widest
returns-in_err-widest c =
    let l = some_capacity _ _ c.in_err-widest.ensures (number_some _) in
    rw (handed_on _ c.from_residual.ensures.1) (plan_ten _ _ _ (omega arith) l ∙ sym (capacity_due_lem _ l) ∙ c.in_err-widest.ensures)

pub overflow_sub-rbits : goal.overflow_sub-rbits
overflow_sub-rbits c = widths c.before

pub overflow_add-rbits : goal.overflow_add-rbits
overflow_add-rbits c = omega (arith, c.in_ok-widest.ensures.1, needed_high c.args.most)

pub overflow_add-qbits : goal.overflow_add-qbits
overflow_add-qbits c = omega (arith, c.in_ok-widest.ensures.1, needed_high c.args.most, widths c.before)

pub returns-then-qbits-rbits-gt64 : goal.returns-then-qbits-rbits-gt64
returns-then-qbits-rbits-gt64 c =
    let f = c.in_ok-widest.ensures in
    let w = c.width_for-qbits.ensures.0 in
    plan_nine _ _ _ (omega arith) (none_capacity _ f.0) (rw (rbits c.before, w) at c.if-qbits-rbits-gt64.true)

pub returns : goal.returns
returns c =
    let f = c.in_ok-widest.ensures in
    let w = c.width_for-qbits.ensures.0 in
    let m = c.max_for.ensures in
    let r = rbits c.before.before in
    let x = by_eq (needed_qbits _) (needed_qbits _) (λ e. m.0 (w ∙ sym e ∙ sym f.1) ∙ sym (planned_none _ _ e)) (λ e. m.1 (λ z. e (sym f.1 ∙ sym z ∙ w)) ∙ f.1 ∙ sym (planned_some _ _ e)) in
    (plan_none _ _ _ (omega arith) (none_capacity _ f.0) (rw (r, w) at (sum c)), (λ i. record { qbits = w i; rbits = r i }), x)
