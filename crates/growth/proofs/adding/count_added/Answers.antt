-- `growth::adding::count_added`: the invariant is that k fingerprints of b are passed, and count of them added (specs/Counting). Assumes nothing.
use mathlib.Core.Path.{◌≡◌, ap, ◌∙◌}
use Rattle.std.specs.Prelude.{Ok}
use Rattle.std.proofs.Common.{rules}
use native.Mathlib.Omega.{arith}
use Rattle.growth.specs.Counting.{counted, counting_none, counting_on, adds_all, adds_enough, adds_other}
use Rattle.growth.proofs.adding.count_added.Goals as goal
use Rattle.growth.proofs.adding.count_added.Goals.{then-is_new, else-is_new}

pub loop-k-init : goal.loop-k-init
loop-k-init c = counting_none c.args.a c.args.b c.args.enough _ c.first_place-place.ensures

pub returns-then-enough-count : goal.returns-then-enough-count
returns-then-enough-count c =
    let l = c.loop-k in
    adds_enough c.args.a c.args.b c.args.enough l.k l.count l.before l.place l.invariant c.if-enough-count.true

pub returns-in_default : goal.returns-in_default
returns-in_default c =
    let l = c.loop-k in
    adds_other c.args.a c.args.b c.args.enough l.k l.count l.before l.place l.invariant _ c.loop-k-test.true c.step_core-stepped.ensures (search rules)

pub returns-in_default-2 : goal.returns-in_default-2
returns-in_default-2 c =
    let l = c.loop-k in
    adds_other c.args.a c.args.b c.args.enough l.k l.count l.before l.place l.invariant _ c.loop-k-test.true c.step_core-stepped.ensures (search rules)

pub loop-k-preserved : goal.loop-k-preserved
loop-k-preserved c =
    let l = c.loop-k in
    let more : counted c.is_new.result l.count ≡ c.if-is_new.count = elim c.if-is_new.branch [ then-is_new w ↦ rw (w.if-is_new.true, w.count-is) | else-is_new w ↦ rw (w.if-is_new.false, w.count-is) ] in
    rw more at (counting_on c.args.a c.args.b c.args.enough l.k l.count l.before l.place l.invariant _ c.loop-k-test.true c.step_core-stepped.ensures _ _ (c.in-Ok-Some.is ∙ ap Ok (rw c.in-Ok-Some.is at c.in-Ok-Some.field-0-is)) c.if-enough-count.false c.is_new.ensures)

pub returns : goal.returns
returns c =
    let l = c.loop-k in
    adds_all c.args.a c.args.b c.args.enough l.k l.count l.before l.place l.invariant (omega arith)
