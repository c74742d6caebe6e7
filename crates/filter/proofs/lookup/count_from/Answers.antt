-- `filter::lookup::count_from`: the invariant is that k places are passed, and how many of them, from `from` on, are equal (specs/Scan). Assumes nothing.
use mathlib.Core.Path.{◌∙◌}
use native.Mathlib.Omega.{arith}
use Rattle.layout.specs.Whole.{views_in}
use Rattle.filter.specs.Scan.{counting_on, counted_over}
use Rattle.filter.proofs.lookup.count_from.Goals as goal

pub loop-s-preserved : goal.loop-s-preserved
loop-s-preserved c =
    let a = c.args in
    let q = c.equal-count.ensures in
    (omega arith, counting_on _ (views_in a.lent.now.shape a.lent.now.buf.now) _ _ _ c.loop-s.k _ _ _ c.loop-s.invariant.1 c.get_remainder.ensures.0 q.0 q.1 q.2 (λ y. c.if-is_runend-eq1.false (c.is_runend.ensures.0 ∙ y)))

pub returns : goal.returns
returns c =
    let a = c.args in
    let q = c.equal-count.ensures in
    rw (← c.slots-slots.ensures.0)
    (counted_over _ (views_in a.lent.now.shape a.lent.now.buf.now) _ _ _ c.loop-s.k _ _ _ c.loop-s.invariant.1 c.get_remainder.ensures.0 q.0 q.1 q.2 _ c.is_runend.ensures.0 (omega arith) c.then-is_runend-eq1.either)
