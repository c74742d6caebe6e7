-- `growth::spare::insert_with_spare_quick`: the plain quick insert, and what its answer leads to. Assumes nothing.
use Rattle.growth.specs.Spare.{spared_quick}
use Rattle.growth.proofs.spare.insert_with_spare_quick.Goals as goal

pub returns : goal.returns
returns c =
    let a = c.args in
    spared_quick a.n a.hash a.max_count a.buf.now a.spare.now c.insert_fingerprint_counting_quick-done.result _ c.move_if_full.result _ c.move_if_full.ensures c.insert_fingerprint_counting_quick-done.ensures
