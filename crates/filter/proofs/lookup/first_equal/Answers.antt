-- `filter::lookup::first_equal`: the invariant is that k places of the run are passed, none of them equal (specs/Scan). Assumes nothing.
use mathlib.Core.Path.{◌∙◌}
use native.Mathlib.Omega.{arith}
use Rattle.layout.specs.Whole.{views_in}
use Rattle.filter.specs.Scan.{sought_hit, sought_over, passing_on}
use Rattle.filter.proofs.lookup.first_equal.Goals as goal

pub loop-s-preserved : goal.loop-s-preserved
loop-s-preserved c =
    let a = c.args in
    (omega arith, passing_on _ (views_in a.lent.now.shape a.lent.now.buf.now) _ _ c.loop-s.k _ c.loop-s.invariant.1 c.get_remainder.ensures.0 c.if-get_remainder-rem.false (λ y. c.if-is_runend-eq1.false (c.is_runend.ensures.0 ∙ y)))

pub returns-then-get_remainder-rem : goal.returns-then-get_remainder-rem
returns-then-get_remainder-rem c =
    let a = c.args in
    rw (← c.slots-slots.ensures.0) (sought_hit _ (views_in a.lent.now.shape a.lent.now.buf.now) _ _ c.loop-s.k _ c.loop-s.invariant.1 c.get_remainder.ensures.0 c.if-get_remainder-rem.true (omega arith))

pub returns-then-is_runend-eq1 : goal.returns-then-is_runend-eq1
returns-then-is_runend-eq1 c =
    let a = c.args in
    rw (← c.slots-slots.ensures.0)
    (sought_over _ (views_in a.lent.now.shape a.lent.now.buf.now) _ _ c.loop-s.k _ c.loop-s.invariant.1 c.get_remainder.ensures.0 _ c.is_runend.ensures.0 c.if-get_remainder-rem.false (omega arith) c.then-is_runend-eq1.either)
