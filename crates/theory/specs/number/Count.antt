-- How many of the digits of a number below p are ones. Assumes nothing.
use Rattle.std.specs.Prelude.{ℕ, zero, suc, ◌+◌, ◌-◌, ◌*◌, ◌/◌, ◌%◌, ◌^◌, ◌≤◌, ◌<◌, ◌≡◌, refl}
use Rattle.std.proofs.Common.{sym, ap, ◌∙◌, mod-eq_of_lt, mod-lt, mul-div_cancel, arith, one-add, pow_pos}
use Rattle.std.proofs.Math.Nat.{mod-one, zero-div, pow-succ', div-eq_of_lt, mul-mod_left}
use Rattle.std.proofs.Math.Arith.{mod-mul}
use Rattle.std.specs.Int.Count.{ones}
use Rattle.std.proofs.lemmas.Nat.{ones_cat}
use Rattle.theory.specs.tools.Total.{total_empty, total_le, total_suc, total, total_zero, total_same, total_add, select_unique}
use Rattle.theory.specs.number.Field.{field_lt, field, field_mod, field_div}

unfoldable pub rank : ℕ → ℕ → ℕ
rank x p = total (λ i. field x i 1) p

pub rank_suc : (x p : ℕ) → rank x (suc p) ≡ rank x p + field x p 1
unfolding rank
rank_suc x p = total_suc (λ i. field x i 1) p

pub rank_zero : (x : ℕ) → rank x 0 ≡ 0
unfolding rank
rank_zero x = total_zero (λ i. field x i 1)

pub rank_le : (x p : ℕ) → rank x p ≤ p
rank_le x zero = omega (arith, rank_zero x)
rank_le x (suc p) = omega (arith, rank_le x p, rank_suc x p, field_lt x p 1)

pub rank_mono : (x p q : ℕ) → p ≤ q → rank x p ≤ rank x q
unfolding rank
rank_mono x p q h = total_le (λ i. field x i 1) p q h

-- two ones with as many below them are one
pub rank_inj : (x p q : ℕ) → field x p 1 ≡ 1 → field x q 1 ≡ 1 → rank x p ≡ rank x q → p ≡ q
unfolding rank
rank_inj x p q hp hq e = select_unique (λ i. field x i 1) p q (omega arith) (omega arith) e

-- the digits from i on, counted as those of the number shifted down
pub rank_shift : (x i k : ℕ) → rank x (i + k) ≡ rank x i + rank (x / 2 ^ i) k
unfolding rank
rank_shift x i k = total_add (λ j. field x j 1) i k ∙ ap (λ z. total (λ j. field x j 1) i + z) (total_same _ _ k (λ j l. sym (field_div x i j 1)))

-- the digits below i do not see what stands from i on
pub rank_mod : (x i p : ℕ) → p ≤ i → rank (x % 2 ^ i) p ≡ rank x p
unfolding rank
rank_mod x i p h = total_same _ _ p (λ j l. field_mod x i j 1 (omega arith))

pub rank_none : (x p : ℕ) → x ≡ 0 → rank x p ≡ 0
unfolding rank field
rank_none x p e = total_empty (λ i. x / 2 ^ i % 2) p (λ i l. omega (arith, ap (λ (y : ℕ). y / 2 ^ i % 2) e, zero-div (2 ^ i)))

-- a number below 2 ^ i has no ones from i on
pub rank_all : (x i p : ℕ) → x < 2 ^ i → i ≤ p → rank x p ≡ rank x i
unfolding rank field
rank_all x i p h l =
    let e : i + (p - i) ≡ p = omega arith in
    let z : x / 2 ^ i ≡ 0 = div-eq_of_lt h in
    rw e at (rank_shift x i (p - i)) ∙ omega (arith, rank_none (x / 2 ^ i) (p - i) z)

-- a number shifted up: the digits below are zeros
pub rank_up : (x i k : ℕ) → rank (x * 2 ^ i) (i + k) ≡ rank x k
rank_up x i k =
    let d : x * 2 ^ i / 2 ^ i ≡ x = mul-div_cancel x (pow_pos i) in
    let m : x * 2 ^ i % 2 ^ i ≡ 0 = mul-mod_left x (2 ^ i) in
    rank_shift (x * 2 ^ i) i k ∙ rw d (omega (arith, sym (rank_mod (x * 2 ^ i) i i (omega arith)), rank_none (x * 2 ^ i % 2 ^ i) i m))

field_half : (x p : ℕ) → field x (suc p) 1 ≡ field (x / 2) p 1
field_half x p = rw (← one-add p) (sym (field_div x 1 p 1))

-- by the lowest digit
pub rank_low : (x p : ℕ) → rank x (suc p) ≡ x % 2 + rank (x / 2) p
unfolding field
rank_low x zero = omega (arith, rank_suc x 0, rank_zero x, rank_zero (x / 2))
rank_low x (suc p) = omega (arith, rank_low x p, rank_suc x (suc p), rank_suc (x / 2) p, field_half x p)

-- what `count_ones` counts
ones_bit : (b : ℕ) → b < 2 → ones b ≡ b
unfolding ones
ones_bit zero l = refl
ones_bit (suc zero) l = refl
ones_bit (suc (suc b)) l = absurd (omega arith)

rank_ones : (w k : ℕ) → rank w k ≡ ones (w % 2 ^ k)
unfolding field ones
rank_ones w zero = rank_zero w ∙ sym (ap ones (mod-one w))
rank_ones w (suc k) =
    let e : w % 2 ^ suc k ≡ (w / 2 ^ k % 2) * 2 ^ k + w % 2 ^ k = ap (λ z. w % z) (pow-succ' 2 k) ∙ mod-mul w (omega arith) (pow_pos k) in
    rw e (omega (arith, rank_suc w k, rank_ones w k, ones_cat k (w / 2 ^ k % 2) (w % 2 ^ k) (mod-lt w (pow_pos k)), ones_bit (w / 2 ^ k % 2) (mod-lt (w / 2 ^ k) (omega arith))))

pub ones_rank : (w k : ℕ) → w < 2 ^ k → ones w ≡ rank w k
ones_rank w k h = sym (rank_ones w k ∙ ap ones (mod-eq_of_lt h))
