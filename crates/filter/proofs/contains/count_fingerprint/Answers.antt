-- `filter::contains::count_fingerprint`: the core on a sound buffer. Assumes nothing.
use Rattle.layout.specs.Judging.{checked_sound, clear_whole}
use Rattle.filter.specs.Asking.{counted}
use Rattle.filter.proofs.contains.count_fingerprint.Goals as goal

pub returns : goal.returns
returns c =
    let a = c.args in
    let h = c.in_ok-check.ensures in
    checked_sound a.n _ _ _ h (λ l. counted a.n a.buf.now l a.hash _ (clear_whole a.n a.buf.now h.none).widths (rw (c.of.ensures.0, c.of.ensures.1) at c.count_hash.ensures))
