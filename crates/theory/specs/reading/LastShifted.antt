-- The last slot that is shifted from a quotient on, found by jumps to the slot before the one behind each run. Assumes nothing.
use Rattle.std.specs.Prelude.{ℕ, suc, ◌+◌, ◌-◌, ◌≤◌, ◌<◌, ◌≡◌}
use Rattle.std.proofs.Common.{arith}
use Rattle.std.proofs.Math.Decide.{dec_lt}
use Rattle.theory.specs.Image.{carry, start}
use Rattle.theory.specs.carry.Carry.{start_carry, start_le}

-- the first slot from x on behind which nothing is carried
pub record LastShifted (m : ℕ) (n : ℕ → ℕ) (x e : ℕ) : Type 0 where
  pub from : x ≤ e
  pub to : e < x + m
  pub none : carry m n (suc e) ≡ 0
  pub before : (y : ℕ) → x ≤ y → y < e → 0 < carry m n (suc y)

-- behind each slot from x to before s something is carried
abbrev pub CarriedBehind : ℕ → (ℕ → ℕ) → ℕ → ℕ → Type 0
CarriedBehind m n x s = (y : ℕ) → x ≤ y → y < s → 0 < carry m n (suc y)

module _ (m : ℕ) (n : ℕ → ℕ) (x s : ℕ) (h : CarriedBehind m n x s) where
  -- g is how far the slot behind the run of s is from s
  pub pushed_on : (g : ℕ) → g ≡ start m n (suc s) - s → CarriedBehind m n x (s + (g - 1))
  pushed_on g e y a b = go (dec_lt y s)
    where
      go : Dec (y < s) → 0 < carry m n (suc y)
      go (yes p) = h y a p
      go (no p) = omega (arith, start_le m n (suc s) (suc y) (omega arith), start_carry m n (suc y))

  pub nothing_carried : (g : ℕ) → g ≡ start m n (suc s) - s → g ≡ 1 → carry m n (suc s) ≡ 0
  nothing_carried g e one = omega (arith, start_carry m n (suc s))

  -- the last slot shifted is the only one
  pub shifted_at : (e : ℕ) → LastShifted m n x e → x ≤ s → carry m n (suc s) ≡ 0 → s ≡ e
  shifted_at e z a c = go (dec_lt s e) (dec_lt e s)
    where
      go : Dec (s < e) → Dec (e < s) → s ≡ e
      go (yes p) d = absurd (omega (arith, z.before s a p))
      go (no p) (yes q) = absurd (omega (arith, h e z.from q, z.none))
      go (no p) (no q) = omega arith

  -- and it is less than a round on
  pub pushed_round : (e : ℕ) → LastShifted m n x e → x + m ≤ s → ⊥
  pushed_round e z a = omega (arith, h e z.from (omega (arith, z.to)), z.none)
