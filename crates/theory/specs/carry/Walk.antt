-- The carry of a walk over quotients: what the runs so far spill past the slot that is reached. `n x` is how many fingerprints have the quotient x.
-- Assumes nothing.
use Rattle.std.specs.Prelude.{ℕ, zero, suc, ◌+◌, ◌-◌, ◌<◌, max, ◌≡◌}
use Rattle.std.proofs.Common.{arith, add-zero, add-suc}
use Rattle.theory.specs.tools.Total.{total}
use Rattle.theory.specs.Image.{walk}

pub walk_max : (n : ℕ → ℕ) (c x : ℕ) → walk n c x ≡ max (walk n 0 x) (c + total n x - x)
unfolding walk total
walk_max n c zero = omega arith
walk_max n c (suc x) = omega (arith, walk_max n c x)

-- two walks of k steps that end where they began are the same, if fewer than k are met
pub walk_closes : (n : ℕ → ℕ) (c k : ℕ) → total n k < k → walk n c k ≡ c → c ≡ walk n 0 k
walk_closes n c k few e = omega (arith, walk_max n c k)

pub walk_again : (n : ℕ → ℕ) (k : ℕ) → total n k < k → walk n (walk n 0 k) k ≡ walk n 0 k
walk_again n k few = omega (arith, walk_max n (walk n 0 k) k)

-- a walk of y + k steps is a walk of y steps and one of k
pub walk_add : (n : ℕ → ℕ) (c y k : ℕ) → walk n c (y + k) ≡ walk (λ i. n (y + i)) (walk n c y) k
unfolding walk
walk_add n c y zero = rw add-zero
walk_add n c y (suc k) = rw (add-suc, walk_add n c y k)
