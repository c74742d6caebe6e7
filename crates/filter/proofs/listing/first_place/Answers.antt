-- `filter::listing::first_place`: the first occupied quotient, and where its run starts (specs/Moving). Assumes nothing.
use Rattle.filter.specs.Moving.{found_first}
use Rattle.filter.proofs.listing.first_place.Goals as goal

pub returns : goal.returns
returns c =
    let a = c.args in
    let h = c.in-Some.ensures in
    found_first a.lent.now.shape a.lent.now.buf.now a.len _ _ h.1 h.2 h.3 c.run_start.ensures
