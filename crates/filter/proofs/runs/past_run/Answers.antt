-- `filter::runs::past_run`: from the slot behind the run, as the walk tells it from the offset of its block (specs/Offsets). Assumes nothing.
use Rattle.filter.specs.Offsets.{past_found}
use Rattle.filter.proofs.runs.past_run.Goals as goal

pub returns : goal.returns
returns c =
    let e = c.slots.ensures.0 in
    rw e (past_found _ _ _ _ (rw e at c.offset.ensures) _ (rw e at (c.in_ok-t.ensures)))
