-- `growth::take::take_in`: the loop keeps `Takes`. Assumes nothing.
use mathlib.Core.Path.{◌≡◌}
use native.Mathlib.Omega.{arith}
use Rattle.growth.specs.Take.{takes_next, takes_last}
use Rattle.growth.proofs.take.take_in.Goals as goal

pub loop-step-preserved : goal.loop-step-preserved
loop-step-preserved c =
    let a = c.args in
    let l = c.loop-step in
    takes_next a.list.lent.shape a.list.lent.buf.now a.list.len a.shape a.dest.now a.len a.max_count l._step l.held l.place l.dest _ c.step_core-stepped.ensures _ _ c.put_step-held.ensures (omega arith) l.invariant

pub returns : goal.returns
returns c =
    let a = c.args in
    let l = c.loop-step in
    let e : l._step ≡ a.list.len = omega arith in
    takes_last a.list.lent.shape a.list.lent.buf.now a.list.len a.shape a.dest.now a.len a.max_count l.held l.place l.dest (rw e at l.invariant)
