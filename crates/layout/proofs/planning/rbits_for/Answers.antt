-- `layout::planning::rbits_for`: the walk of `halvings`, with 2 ^ -k beside k. Assumes nothing.
use Rattle.std.proofs.Common.{sym, ◌∙◌, add-one, arith}
use Rattle.theory.specs.plan.Rates.{halve, half_bits, halvings_step}
use Rattle.layout.proofs.planning.rbits_for.Goals as goal

pub loop-k-preserved : goal.loop-k-preserved
loop-k-preserved c =
    let l = c.loop-k in
    let i = l.invariant in (
      rw (i.0, half_bits, add-one) (halve l.k (omega arith)),
      sym (halvings_step l.k _ (omega arith) (rw i.0 at c.if-rate-h.true)) ∙ i.1,
    )
