-- `filter::lookup::find_hash`: an empty run, or the scan from its first slot (specs/Lookup). Assumes nothing.
use mathlib.Core.Path.{◌∙◌}
use Rattle.filter.specs.Lookup.{shown_run, shown_few}
use Rattle.filter.proofs.lookup.find_hash.Goals as goal

pub returns : goal.returns
returns c =
    let a = c.args in
    let q = c.quotient-x.ensures in
    λ l w. rw (← q.0, ← c.remainder.ensures.0)
    (c.first_equal.ensures.right _ (shown_run a.lent.now.shape a.lent.now.buf.now l w _ q.1 _ (λ z. c.if-is_occupied-eq0.false (c.is_occupied.ensures.0 ∙ z)) c.run_start-at.ensures) (shown_few a.lent.now.shape a.lent.now.buf.now l w _ q.1))
