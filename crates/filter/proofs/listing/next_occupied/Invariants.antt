-- `filter::listing::next_occupied`: a word a turn. The invariant: no quotient from `from` on is occupied below digit `skip` of block b. Assumes nothing.
use Prim.Native.Nat.{◌+◌, ◌*◌, ◌≤◌, ◌<◌}
use Rattle.layout.specs.Whole.{views_in}
use Rattle.filter.specs.Occupied.{Vacant}
use Rattle.filter.proofs.listing.next_occupied.Given as goal

abbrev pub invariant-loop-b : goal.invariant-loop-b
invariant-loop-b l = (l.from ≤ 64 * l.b + l.skip) × (l.skip < 64) × Vacant (views_in l.lent.shape l.lent.buf.now) l.from (64 * l.b + l.skip)
