-- `growth::adding::absent`: what the lookup says (specs/Adding). Assumes nothing.
use Rattle.growth.specs.Adding.{lacks_seen}
use Rattle.growth.proofs.adding.absent.Goals as goal

pub returns-in-Held : goal.returns-in-Held
returns-in-Held c = lacks_seen c.args.a c.args.hash _ c.in-Held.ensures

pub returns-in-Absent : goal.returns-in-Absent
returns-in-Absent c = lacks_seen c.args.a c.args.hash _ c.in-Absent.ensures
