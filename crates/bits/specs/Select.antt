-- What `select` promises: where the n-th one stands, the first being number 0.
use Rattle.std.specs.Prelude.{Option, Some, None, ◌≡◌, ℕ, suc, ◌+◌, ◌-◌, ◌<◌, ◌≤◌, refl}
use Rattle.std.proofs.Common.{arith, sym, ap, ◌∙◌}
use Rattle.theory.specs.Select.{Position, place, none, Selects}
use Rattle.theory.specs.number.Field.{field}
use Rattle.theory.specs.number.Count.{rank, rank_suc, rank_mono, rank_inj}

-- the answer as a position
abbrev pub position_of : Option ℕ → Position
position_of (Some p) = place p
position_of None = none

-- it is the position that select finds
abbrev pub Selected : ℕ → ℕ → Option ℕ → Type 0
Selected x n r = Selects x n (position_of r)

-- y has the ones of x but for the n lowest
abbrev pub Cleared : ℕ → ℕ → ℕ → Type 0
Cleared x n y = (k : ℕ) → rank y k ≡ rank x k - n

pub cleared_more : (x y z n m t : ℕ) → n + m ≡ t → Cleared x n y → Cleared y m z → Cleared x t z
cleared_more x y z n m t e a b k = omega (arith, a k, b k)

-- two answers that meet the promise are one
clash : (x n p : ℕ) → p < 64 → field x p 1 ≡ 1 → rank x p ≡ n → rank x 64 ≤ n → ⊥
clash x n p l b e h = omega (arith, rank_suc x p, rank_mono x (suc p) 64 l)

pub selected_unique : (x n : ℕ) (a b : Option ℕ) → Selected x n a → Selected x n b → a ≡ b
selected_unique x n (Some p) (Some q) s t = ap Some (rank_inj x p q s.1 t.1 (s.2 ∙ sym t.2))
selected_unique x n (Some p) None s t = absurd (clash x n p s.0 s.1 s.2 t)
selected_unique x n None (Some q) s t = absurd (clash x n q t.0 t.1 t.2 s)
selected_unique x n None None s t = refl
