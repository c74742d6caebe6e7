-- `filter::listing::next_run`: behind the run's end, or at the next occupied quotient if that is later (specs/Moving). Assumes nothing.
use Rattle.filter.specs.Moving.{end_moves, run_moves}
use Rattle.filter.proofs.listing.next_run.Goals as goal

pub returns-in_default : goal.returns-in_default
returns-in_default c =
    let a = c.args in
    λ e. rw c.none_left.ensures (end_moves a.lent.now.shape a.lent.now.buf.now a.x a.s a.left e c.in_default.ensures)

pub returns : goal.returns
returns c =
    let a = c.args in
    let h = c.in-Some.ensures in
    let m = c.slots-slots.ensures.0 in
    λ e. run_moves a.lent.now.shape a.lent.now.buf.now a.x a.s a.left _ c.unrolled-end.result _ e h.0 h.1 h.2 h.3 (rw m at c.unrolled-end.ensures) (rw (c.larger.ensures, m) at c.wrapped.ensures)
