-- `filter::contains::count_fingerprint_quick`: the core where none of 1 to 5 is due. Assumes nothing.
use Rattle.layout.specs.Judging.{quick_worked, clear_whole}
use Rattle.filter.specs.Asking.{counted}
use Rattle.filter.proofs.contains.count_fingerprint_quick.Goals as goal

pub returns : goal.returns
returns c =
    let a = c.args in
    let h = c.in_ok-number_due.ensures in
    quick_worked a.n _ _ _ _ h (λ l. counted a.n a.buf.now l a.hash _ (clear_whole a.n a.buf.now h).widths (rw (c.of.ensures.0, c.of.ensures.1) at c.count_hash.ensures)) tt
