-- `writing::remove::find_copy`: an empty run, a miss, or the last equal place of the run (specs/CopyOut). Assumes nothing.
use Rattle.std.proofs.Common.{sym, ◌∙◌}
use Rattle.writing.specs.CopyOut.{going_empty, going_none, going_copy}
use Rattle.writing.proofs.remove.find_copy.Goals as goal

pub returns-then-is_occupied-eq0 : goal.returns-then-is_occupied-eq0
returns-then-is_occupied-eq0 c =
    let a = c.args in
    going_empty a.lent.now.shape a.lent.now.buf.now a.x a.rem c.requires (sym c.is_occupied.ensures.0 ∙ c.if-is_occupied-eq0.true)

pub returns-in_default : goal.returns-in_default
returns-in_default c =
    let a = c.args in
    going_none a.lent.now.shape a.lent.now.buf.now a.x a.rem c.requires _ (λ z. c.if-is_occupied-eq0.false (c.is_occupied.ensures.0 ∙ z)) c.run_start-at.ensures c.in_default.ensures

pub returns : goal.returns
returns c =
    let a = c.args in
    going_copy a.lent.now.shape a.lent.now.buf.now a.x a.rem c.requires _ (λ z. c.if-is_occupied-eq0.false (c.is_occupied.ensures.0 ∙ z)) c.run_start-at.ensures c.args.lent.now.whole.widths.low _ _ _ _ _ (rw c.slots.ensures.0 at c.unrolled-first.ensures) c.in-Some.ensures c.bit_place.ensures c.lesser.ensures
