-- `filter::runs::run_start`: the counts in the words are those of theory reading/StartNear. Assumes nothing.
use Rattle.std.proofs.Common.{◌+◌, ◌-◌, ◌*◌, ◌/◌, ◌%◌, ◌^◌, ◌≡◌, ap, arith}
use Rattle.theory.specs.Shape.{slots}
use Rattle.theory.specs.number.Bytes.{le}
use Rattle.theory.specs.images.Block.{word_at}
use Rattle.layout.specs.Whole.{views_in}
use Rattle.theory.specs.images.Sizes.{slots_blocks}
use Rattle.theory.specs.reading.StartNear.{Pending, pending_near, never_near, start_near, some_near}
use Rattle.filter.proofs.runs.run_start.Goals as goal
use Rattle.filter.proofs.runs.run_start.Goals.{Else-begun-over}

-- so many runs are pending before the slot of x
pending : (c : Else-begun-over) → Pending (slots c.args.lent.now.shape.qbits) (views_in c.args.lent.now.shape c.args.lent.now.buf.now) c.args.x (c.ones_below-begun.result - c.ones_between-over.result)
pending c =
    pending_near _ _ _ _ _ (slots_blocks _ c.args.lent.now.whole.widths.low) c.requires _ _ _ c.offset_byte-o.ensures.0 (omega arith)
    (rw c.occupieds.ensures at c.ones_below-begun.ensures.0) (rw c.runends-word.ensures at c.ones_between-over.ensures.0) (omega arith)

-- and the word that is selected from is the block's
from : (c : Else-begun-over) → c.runends-word.result / 2 ^ (c.args.x % 64) * 2 ^ 1 % 2 ^ 64 + 1 ≡ word_at c.args.lent.now.shape.rbits 9 (le c.args.lent.now.buf.now) (c.args.x / 64) / 2 ^ (c.args.x % 64) * 2 ^ 1 % 2 ^ 64 + 1
from c = ap (λ w. w / 2 ^ (c.args.x % 64) * 2 ^ 1 % 2 ^ 64 + 1) c.runends-word.ensures

pub returns-then-begun-over : goal.returns-then-begun-over
returns-then-begun-over c =
    never_near _ _ _ _ _ (slots_blocks _ c.args.lent.now.whole.widths.low) c.requires _ _ _ c.offset_byte-o.ensures.0 (omega arith)
    (rw c.occupieds.ensures at c.ones_below-begun.ensures.0) (rw c.runends-word.ensures at c.ones_between-over.ensures.0) (omega arith)

pub start_past-requires : goal.start_past-requires
start_past-requires c =
    let p = (goal.at.start_past-requires c).Else-begun-over in
    (c.requires, some_near _ _ _ _ _ (slots_blocks _ c.args.lent.now.whole.widths.low) c.requires _ _ (from p) (pending p) c.in_default.ensures, pending p)

pub returns : goal.returns
returns c =
    let p = (goal.at.returns c).Else-begun-over in
    rw c.slots.ensures.0 (start_near _ _ _ _ _ (slots_blocks _ c.args.lent.now.whole.widths.low) c.requires _ _ (from p) (pending p) _ c.in-Some.ensures)
