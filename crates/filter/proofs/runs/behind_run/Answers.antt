-- `filter::runs::behind_run`: the three ways of the code are those of specs/Runs. Assumes nothing.
use native.Mathlib.Omega.{arith}
use Rattle.theory.specs.images.Sizes.{slots_blocks}
use Rattle.filter.specs.Runs.{behind_empty, behind_last, behind_missed}
use Rattle.filter.proofs.runs.behind_run.Goals as goal

pub returns-then-k-eq0 : goal.returns-then-k-eq0
returns-then-k-eq0 c =
    behind_empty _ _ _ _ _ _ _ (slots_blocks _ c.args.lent.now.whole.widths.low) c.requires.0 (rw c.occupieds.ensures at c.ones_through-k.ensures.0) _ c.if-k-eq0.true c.larger.ensures

pub returns-in_err-p : goal.returns-in_err-p
returns-in_err-p c =
    rw c.from_residual.ensures (behind_missed _ _ _ _ _ _ _ (slots_blocks _ c.args.lent.now.whole.widths.low) c.requires.0 (rw c.occupieds.ensures at c.ones_through-k.ensures.0) (omega arith) c.in_err-p.ensures)

pub returns : goal.returns
returns c =
    behind_last _ _ _ _ _ _ _ (slots_blocks _ c.args.lent.now.whole.widths.low) c.requires.0 (rw c.occupieds.ensures at c.ones_through-k.ensures.0) _ _ (omega arith) c.in_ok-p.ensures c.larger-2.ensures
