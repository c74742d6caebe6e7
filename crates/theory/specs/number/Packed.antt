-- Numbers of w digits each, packed without gaps, the first lowest; and a byte list as a number, part by part. Assumes nothing.
use Rattle.std.specs.Prelude.{ℕ, zero, suc, ◌+◌, ◌*◌, ◌^◌, ◌≤◌, ◌<◌, ◌≡◌}
use Rattle.std.proofs.Common.{sym, ◌∙◌, arith, zero-mul, suc-mul, mul-le-mul_right, mod-eq_of_lt, mul_comm, pow-add}
use Rattle.std.proofs.Math.Decide.{ℕ_discrete}
use Rattle.std.proofs.Math.Pow.{high, low}
use Rattle.std.proofs.Math.Arith.{digits_lt}
use Rattle.theory.specs.number.Field.{field_mod, field}

-- f 0, f 1, .., f (k - 1) in w digits each
unfoldable pub packed : ℕ → (ℕ → ℕ) → ℕ → ℕ
packed w f zero = 0
packed w f (suc k) = f k * 2 ^ (k * w) + packed w f k

pub packed_lt : (w : ℕ) (f : ℕ → ℕ) (k : ℕ) → ((i : ℕ) → i < k → f i < 2 ^ w) → packed w f k < 2 ^ (k * w)
unfolding packed
packed_lt w f zero h = rw (zero-mul w) (omega arith)
packed_lt w f (suc k) h =
    rw (suc-mul k w, pow-add 2 (k * w) w, mul_comm (2 ^ (k * w)) (2 ^ w))
    (digits_lt (h k (omega arith)) (packed_lt w f k (λ i l. h i (omega arith))))

-- each of them is read back
pub packed_field : (w : ℕ) (f : ℕ → ℕ) (k i : ℕ) → ((j : ℕ) → j < k → f j < 2 ^ w) → i < k → field (packed w f k) (i * w) w ≡ f i
unfolding packed field
packed_field w f zero i h l = absurd (omega arith)
packed_field w f (suc k) i h l = go (ℕ_discrete i k) (λ m. packed_field w f k i (λ j b. h j (omega arith)) m)
  where
    small : packed w f k < 2 ^ (k * w)
    small = packed_lt w f k (λ j b. h j (omega arith))

    go : Dec (i ≡ k) → (i < k → field (packed w f k) (i * w) w ≡ f i) → field (f k * 2 ^ (k * w) + packed w f k) (i * w) w ≡ f i
    go (yes e) ih = rw (e, high (f k) (k * w) small) (mod-eq_of_lt (h k (omega arith)))
    go (no e) ih =
        let b : i * w + w ≤ k * w = omega (arith, suc-mul i w, mul-le-mul_right {m = suc i} {n = k} w (omega arith)) in
        sym (field_mod (f k * 2 ^ (k * w) + packed w f k) (k * w) (i * w) w b) ∙ rw (low (f k) (k * w) small) (ih (omega arith))
