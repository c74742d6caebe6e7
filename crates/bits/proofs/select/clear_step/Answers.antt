-- `bits::select::clear_step`: y - 1 wraps at 0 only, where nothing is to be cleared. Assumes nothing.
use Rattle.std.proofs.Common.{◌≡◌, ℕ, ◌+◌, ◌-◌, ◌%◌, ◌^◌, ◌<◌, ◌⊎◌, inl, inr, eq-zero-or-pos, arith}
use lib.Bits.{bit_and, and_le_l}
use Rattle.theory.specs.number.Count.{rank, rank_none}
use Rattle.theory.specs.number.Lowest.{rank_clear}
use Rattle.bits.proofs.select.clear_step.Goals as goal

-- whatever 0 - 1 gives
cleared : (y z k : ℕ) → (z + 1) % 2 ^ 64 ≡ y → z < 2 ^ 64 → (y ≡ 0) ⊎ (0 < y) → rank (bit_and y z) k ≡ rank y k - 1
cleared y z k e l (inl o) = omega (arith, rank_none y k o, rank_none (bit_and y z) k (omega (arith, and_le_l y z)))
cleared y z k e l (inr p) =
    let b : z ≡ y - 1 = omega arith in
    rw b (rank_clear k y p)

pub returns-then-j-n : goal.returns-then-j-n
returns-then-j-n c k =
    let y = c.args.y in
    omega (arith, cleared y c.wrapping_sub_u64.result k c.wrapping_sub_u64.ensures.value (omega arith) (eq-zero-or-pos y), c.if-j-n.true)
