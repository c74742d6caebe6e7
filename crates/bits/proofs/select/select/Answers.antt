-- `bits::select::select`: where more than n ones stand, n are cleared and the lowest left is the n-th. Assumes nothing.
use Rattle.std.proofs.Common.{◌≡◌, ◌<◌, ◌⊎◌, inl, inr, eq-zero-or-pos, arith}
use lib.Count.{trailing_le}
use Rattle.theory.specs.number.Count.{rank_none}
use Rattle.theory.specs.number.Lowest.{lowest, nth}
use Rattle.bits.specs.Select.{Cleared, cleared_more}
use Rattle.bits.proofs.select.select.Goals as goal
use Rattle.bits.proofs.select.select.Goals.{After-clear_few}

-- n ones are cleared in all
all : (c : After-clear_few) → Cleared c.args.x c.args.n c.clear_few.result
all c =
    let l = c.loop-left in
    cleared_more _ _ _ _ _ _ (omega arith) l.invariant.1 c.clear_few.ensures

-- and one is left
some : (c : After-clear_few) → 0 < c.clear_few.result
some c = go (eq-zero-or-pos c.clear_few.result)
  where
    go : (c.clear_few.result ≡ 0) ⊎ (0 < c.clear_few.result) → 0 < c.clear_few.result
    go (inl z) = absurd (omega (arith, rank_none c.clear_few.result 64 z, all c 64, c.ones.ensures.0))
    go (inr p) = p

pub returns-then-ones-n : goal.returns-then-ones-n
returns-then-ones-n c = omega (arith, c.ones.ensures.0)

pub loop-left-init : goal.loop-left-init
loop-left-init c = (omega arith, λ k. omega arith)

pub loop-left-preserved : goal.loop-left-preserved
loop-left-preserved c = (omega arith, cleared_more _ _ _ _ _ _ (omega arith) c.loop-left.invariant.1 c.clear_few-y.ensures)

pub overflow_cast-result : goal.overflow_cast-result
overflow_cast-result c = omega (arith, trailing_le 64 c.clear_few.result)

pub returns : goal.returns
returns c =
    let a = c.args in
    nth a.x c.clear_few.result a.n _ (all c) (lowest 64 c.clear_few.result (some c) (omega arith))
