-- `filter::listing::begin`: the place of the first fingerprint of a sound buffer. Assumes nothing.
use Rattle.layout.specs.Judging.{checked_sound}
use Rattle.filter.specs.Listing.{begins_at}
use Rattle.filter.proofs.listing.begin.Goals as goal

pub returns : goal.returns
returns c =
    let a = c.args in
    let h = c.in_ok-check.ensures in
    checked_sound a.n a.buf.now _ _ h (begins_at a.n a.buf.now h.none _ (rw (c.of.ensures.0, c.of.ensures.1) at c.first_place.ensures))
