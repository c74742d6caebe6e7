-- `growth::spare::move_to_spare`: growth's refusal, or the insert into the grown spare. Assumes nothing.
use Rattle.layout.specs.Refusals.{handed_on}
use Rattle.growth.specs.Spare.{moves_refused, moves_grown}
use Rattle.growth.proofs.spare.move_to_spare.Goals as goal

pub returns-in_err-grown : goal.returns-in_err-grown
returns-in_err-grown c =
    let a = c.args in
    rw (handed_on _ c.from_residual.ensures.1) (moves_refused a.n a.hash a.max_count a.buf.now a.spare.now _ _ c.in_err-grown.ensures)

pub returns : goal.returns
returns c =
    let a = c.args in
    moves_grown a.n a.hash a.max_count a.buf.now a.spare.now _ _ c.in_ok-grown.ensures _ _ c.put_in_spare.ensures
