-- `filter::contains::contains_fingerprint`: the core on a sound buffer. Assumes nothing.
use Rattle.layout.specs.Judging.{checked_sound, clear_whole}
use Rattle.filter.specs.Asking.{looked}
use Rattle.filter.proofs.contains.contains_fingerprint.Goals as goal

pub returns : goal.returns
returns c =
    let a = c.args in
    let h = c.in_ok-check.ensures in
    checked_sound a.n _ _ _ h (λ l. looked a.n a.buf.now l a.hash _ (clear_whole a.n a.buf.now h.none).widths (rw (c.of.ensures.0, c.of.ensures.1) at c.find_hash.ensures))
