-- `y & (y - 1)` clears the lowest one; `trailing_zeros` is its place. Assumes nothing.
use Rattle.std.specs.Prelude.{ℕ, zero, suc, ◌-◌, ◌*◌, ◌/◌, ◌%◌, ◌^◌, ◌<◌, ◌≡◌, refl}
use Rattle.std.proofs.Common.{◌∙◌, pow-suc, arith}
use Rattle.std.specs.Int.Bits.{bit_and, and_step, and_self}
use Rattle.std.specs.Int.Count.{count_trailing_zeros, under}
use Rattle.theory.specs.number.Count.{rank, rank_zero, rank_low, rank_suc}
use Rattle.theory.specs.number.Field.{field, by_lt, field_lt}

-- an odd y loses its last digit
clear_odd : (y : ℕ) → y % 2 ≡ 1 → bit_and y (y - 1) ≡ y / 2 * 2
clear_odd y o =
    let a : (y - 1) / 2 ≡ y / 2 = omega arith in
    let b : (y - 1) % 2 ≡ 0 = omega arith in
    and_step y (y - 1) ∙ rw (a, b, o, and_self (y / 2)) (omega arith)

clear_even : (y : ℕ) → 0 < y → y % 2 ≡ 0 → bit_and y (y - 1) ≡ bit_and (y / 2) (y / 2 - 1) * 2
clear_even y p o =
    let a : (y - 1) / 2 ≡ y / 2 - 1 = omega arith in
    let b : (y - 1) % 2 ≡ 1 = omega arith in
    and_step y (y - 1) ∙ rw (a, b, o) (omega arith)

rank_double : (w j : ℕ) → rank (w * 2) (suc j) ≡ rank w j
rank_double w j =
    let e : w * 2 / 2 ≡ w = omega arith in
    let m : w * 2 % 2 ≡ 0 = omega arith in
    rank_low (w * 2) j ∙ rw (e, m) (omega arith)

rank_clear_even : (j y : ℕ) → 0 < y → y % 2 ≡ 0 → (0 < y / 2 → rank (bit_and (y / 2) (y / 2 - 1)) j ≡ rank (y / 2) j - 1)
    → rank (bit_and y (y - 1)) (suc j) ≡ rank y (suc j) - 1
rank_clear_even j y p o ih =
    rw (clear_even y p o) (rank_double _ j ∙ ih (omega arith) ∙ omega (arith, rank_low y j))

rank_clear_odd : (j y : ℕ) → y % 2 ≡ 1 → rank (bit_and y (y - 1)) (suc j) ≡ rank y (suc j) - 1
rank_clear_odd j y o = rw (clear_odd y o) (rank_double _ j ∙ omega (arith, rank_low y j))

pub rank_clear : (j y : ℕ) → 0 < y → rank (bit_and y (y - 1)) j ≡ rank y j - 1
rank_clear zero y p = omega (arith, rank_zero (bit_and y (y - 1)), rank_zero y)
rank_clear (suc j) y p =
    by_lt (y % 2) 1 (λ l. rank_clear_even j y p (omega arith) (rank_clear j (y / 2))) (λ l. rank_clear_odd j y (omega arith))

-- ---- the place of the lowest one
pub record Lowest (k y t : ℕ) : Type 0 where
  pub within : t < k
  pub none_below : rank y t ≡ 0
  pub one : rank y (suc t) ≡ 1

lowest_step : (k y d t : ℕ) → y % 2 ≡ d → (d ≡ 0 → Lowest k (y / 2) t) → Lowest (suc k) y (under d t)
lowest_step k y zero t e ih =
    let h = ih refl in
    let a = rank_low y t in
    let b = rank_low y (suc t) in
    let c = h.none_below in
    let d = h.one in
    record { within = omega (arith, h.within); none_below = omega arith; one = omega arith }
lowest_step k y (suc d) t e ih =
    let a = rank_low y 0 in
    record { within = omega arith; none_below = rank_zero y; one = omega (arith, rank_zero (y / 2)) }

pub lowest : (k y : ℕ) → 0 < y → y < 2 ^ k → Lowest k y (count_trailing_zeros k y)
unfolding count_trailing_zeros
lowest zero y p l = absurd (omega (arith, l))
lowest (suc k) y p l =
    lowest_step k y (y % 2) (count_trailing_zeros k (y / 2)) refl
    (λ e. lowest k (y / 2) (omega arith) (omega (arith, pow-suc 2 k)))

-- where n ones have been cleared, the lowest one left is the n-th
pub nth : (x y n t : ℕ) → ((j : ℕ) → rank y j ≡ rank x j - n) → Lowest 64 y t → (t < 64) × (field x t 1 ≡ 1) × (rank x t ≡ n)
nth x y n t h l =
    let a = h t in
    let b = h (suc t) in
    let c = l.none_below in
    let d = l.one in
    let e = rank_suc x t in
    let f = field_lt x t 1 in
    (l.within, omega arith, omega arith)
