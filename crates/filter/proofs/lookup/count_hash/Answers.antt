-- `filter::lookup::count_hash`: an empty run, a miss, or all from the first equal one on (specs/Lookup, specs/Scan). Assumes nothing.
use mathlib.Core.Path.{sym, ◌∙◌}
use Rattle.filter.specs.Lookup.{shown_run, shown_few, count_run}
use Rattle.filter.specs.Scan.{counted_all, counted_none}
use Rattle.filter.proofs.lookup.count_hash.Goals as goal

pub returns-in_default : goal.returns-in_default
returns-in_default c =
    let a = c.args in
    let q = c.quotient-x.ensures in
    λ l w. count_run a.lent.now.shape a.lent.now.buf.now l w _ q.1 _ _ (sym q.0) (rw (← c.remainder-rem.ensures.0) (counted_none _ _ _ (sym c.in_default.is ∙ c.first_equal.ensures.right _ (shown_run a.lent.now.shape a.lent.now.buf.now l w _ q.1 _ (λ z. c.if-is_occupied-eq0.false (c.is_occupied.ensures.0 ∙ z)) c.run_start-at.ensures) (shown_few a.lent.now.shape a.lent.now.buf.now l w _ q.1))))

pub returns : goal.returns
returns c =
    let a = c.args in
    let q = c.quotient-x.ensures in
    λ l w.
    let r = shown_run a.lent.now.shape a.lent.now.buf.now l w _ q.1 _ (λ z. c.if-is_occupied-eq0.false (c.is_occupied.ensures.0 ∙ z)) c.run_start-at.ensures in
    let few = shown_few a.lent.now.shape a.lent.now.buf.now l w _ q.1 in
    count_run a.lent.now.shape a.lent.now.buf.now l w _ q.1 _ _ (sym q.0) (rw (← c.remainder-rem.ensures.0) (counted_all _ _ _ _ _ _ _ r few (sym c.in-Held.is ∙ c.first_equal.ensures.right _ r few) c.count_from.ensures))
