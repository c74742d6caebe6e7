-- `filter::listing::next_place`: none remain; behind a run's end; or the next slot (specs/Moving). Assumes nothing.
use mathlib.Core.Path.{◌∙◌}
use Rattle.filter.specs.Moving.{none_moves, inner_moves}
use Rattle.filter.proofs.listing.next_place.Goals as goal

pub returns-then-left-eq0 : goal.returns-then-left-eq0
returns-then-left-eq0 c =
    let a = c.args in
    rw c.none_left.ensures (none_moves a.lent.now.shape a.lent.now.buf.now a.x a.s a.left c.if-left-eq0.true)

pub returns : goal.returns
returns c =
    let a = c.args in
    inner_moves a.lent.now.shape a.lent.now.buf.now a.x a.s a.left _ (λ e. c.if-is_runend-eq1.false (c.is_runend.ensures.0 ∙ e)) (rw c.slots.ensures.0 at c.wrapped.ensures)
