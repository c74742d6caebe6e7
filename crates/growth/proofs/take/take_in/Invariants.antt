-- `growth::take::take_in`: the loop keeps `Takes`. Assumes nothing.
use Rattle.growth.specs.Take.{Takes}
use Rattle.growth.proofs.take.take_in.Given as goal

abbrev pub invariant-loop-step : goal.invariant-loop-step
invariant-loop-step l = Takes l.list.lent.shape l.list.lent.buf.now l.list.len l.shape l.initial.dest l.len l.max_count l._step l.held l.place l.dest
