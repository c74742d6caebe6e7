-- `filter::runs::start_behind`: the slot behind the run of the quotient before. Assumes nothing.
use Rattle.filter.specs.Offsets.{start_behind}
use Rattle.filter.proofs.runs.start_behind.Goals as goal

pub returns : goal.returns
returns c =
    let e = c.slots-slots.ensures.0 in
    rw e (start_behind _ _ _ _ c.requires (rw e at c.run_end.ensures))
