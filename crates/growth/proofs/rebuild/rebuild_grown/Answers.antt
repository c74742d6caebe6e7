-- `growth::rebuild::rebuild_grown`: the check's number, or growth of a sound buffer. Assumes nothing.
use Rattle.layout.specs.Judging.{checked_sound}
use Rattle.growth.proofs.rebuild.rebuild_grown.Goals as goal

pub grow-requires : goal.grow-requires
grow-requires c = c.in_ok-check.ensures.none

pub returns : goal.returns
returns c = checked_sound c.args.n _ _ _ c.in_ok-check.ensures c.grow.ensures
