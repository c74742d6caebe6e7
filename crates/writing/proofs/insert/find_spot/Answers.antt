-- `writing::insert::find_spot`: an empty run, or where the scan of the run stopped (specs/CopyIn). Assumes nothing.
use Rattle.std.proofs.Common.{sym, ◌∙◌}
use Rattle.writing.specs.CopyIn.{spot_new, spot_inside, spot_end}
use Rattle.writing.proofs.insert.find_spot.Goals as goal

pub returns-then-is_occupied-eq0 : goal.returns-then-is_occupied-eq0
returns-then-is_occupied-eq0 c =
    let a = c.args in
    spot_new a.lent.now.shape a.lent.now.whole.widths.low a.lent.now.buf.now a.x a.rem _ _ c.requires c.run_start-at.ensures (rw c.slots.ensures.0 at c.unrolled-first.ensures) (sym c.is_occupied.ensures.0 ∙ c.if-is_occupied-eq0.true)

pub returns-in-Inside : goal.returns-in-Inside
returns-in-Inside c =
    let a = c.args in
    spot_inside a.lent.now.shape a.lent.now.whole.widths.low a.lent.now.buf.now a.x a.rem _ _ c.requires c.run_start-at.ensures (rw c.slots.ensures.0 at c.unrolled-first.ensures) _ _ (λ z. c.if-is_occupied-eq0.false (c.is_occupied.ensures.0 ∙ z)) c.in-Inside.ensures

pub returns-in-AtEnd : goal.returns-in-AtEnd
returns-in-AtEnd c =
    let a = c.args in
    spot_end a.lent.now.shape a.lent.now.whole.widths.low a.lent.now.buf.now a.x a.rem _ _ c.requires c.run_start-at.ensures (rw c.slots.ensures.0 at c.unrolled-first.ensures) _ _ (λ z. c.if-is_occupied-eq0.false (c.is_occupied.ensures.0 ∙ z)) c.in-AtEnd.ensures
