-- `filter::runs::start_past`: the n-th runend from slot x on is met within a round. Assumes nothing.
use Rattle.theory.specs.images.Sizes.{slots_blocks}
use Rattle.theory.specs.reading.StartNear.{start_told, start_missing}
use Rattle.filter.proofs.runs.start_past.Goals as goal

pub returns-in_default : goal.returns-in_default
returns-in_default c = start_missing _ _ _ _ _ (slots_blocks _ c.args.lent.now.whole.widths.low) c.requires.0 c.requires.1 c.in_default.ensures c.requires.2

pub returns : goal.returns
returns c =
    let t = c.in-Some.ensures in
    rw c.slots.ensures.0 (start_told _ _ _ _ _ c.requires.0 c.requires.1 t.2 t.3 c.requires.2)
