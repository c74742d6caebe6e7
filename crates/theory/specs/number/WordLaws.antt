-- Laws of words: a field of twice the width as two, a shifted one, a field put into a word, and where a packed remainder stands. Assumes nothing.
use Rattle.std.specs.Prelude.{ℕ, ◌+◌, ◌-◌, ◌*◌, ◌/◌, ◌%◌, ◌^◌, ◌<◌, ◌≤◌, ◌≡◌}
use Rattle.std.proofs.Common.{sym, ◌∙◌, mul-add, mod-lt, one-mul, mul-le-mul_right, arith, pow_pos, shr_lt, shl_exact}
use Rattle.std.proofs.Math.Pow.{split}
use Rattle.std.proofs.lemmas.Nat.{from_le_bytes-to_le_bytes_8}
use Rattle.std.specs.Int.{w64, to_le_bytes}
use Rattle.theory.specs.number.Bytes.{le}
use Rattle.theory.specs.number.Field.{field, put, by_lt, field_add, put_join, put_cat, field_lt, field_le, put_sub, put_lt}

pub pair : (x o k : ℕ) (hi lo : ℕ) → hi ≡ field x (8 * (o + k)) (8 * k) → lo ≡ field x (8 * o) (8 * k)
    → hi * 2 ^ (8 * k) + lo ≡ field x (8 * o) (8 * k + 8 * k)
pair x o k hi lo a b = rw (a, b, mul-add 8 o k) (sym (field_add x (8 * o) (8 * k) (8 * k)))

pub two : (x y z o k v : ℕ) → v < 2 ^ (8 * k + 8 * k)
    → y ≡ put x (8 * o) (8 * k) (v % 2 ^ (8 * k)) → z ≡ put y (8 * (o + k)) (8 * k) (v / 2 ^ (8 * k))
    → z ≡ put x (8 * o) (8 * k + 8 * k) v
two x y z o k v h a b =
    let lo : v % 2 ^ (8 * k) < 2 ^ (8 * k) = mod-lt v (pow_pos (8 * k)) in
    b ∙ rw (a, mul-add 8 o k) (put_join x (8 * o) (8 * k) (8 * k) _ _ lo (shr_lt (8 * k) (8 * k) h)
    ∙ rw (put_cat _ (8 * k) (8 * k) (v / 2 ^ (8 * k)) lo, split v (8 * k)))

-- 1 << i
pub one_shl : (i : ℕ) → i < 64 → (1 * 2 ^ i) % 2 ^ 64 ≡ 2 ^ i
one_shl i h = shl_exact 1 i 64 (omega arith) (omega arith) ∙ one-mul (2 ^ i)

-- what `x - (f << p) + (v << p)` is
pub record PutCode (x p w v f : ℕ) : Type 0 where
  pub below : (f * 2 ^ p) % 2 ^ 64 ≤ x
  pub is : x - (f * 2 ^ p) % 2 ^ 64 + (v * 2 ^ p) % 2 ^ 64 ≡ put x p w v
  pub fits : put x p w v < 2 ^ 64

pub put_code : (x p w v f : ℕ) → x < 2 ^ 64 → p + w ≤ 64 → v < 2 ^ w → f ≡ field x p w → PutCode x p w v f
put_code x p w v f hx h hv e =
    let fl : f < 2 ^ w = rw e (field_lt x p w) in
    let a : (f * 2 ^ p) % 2 ^ 64 ≡ f * 2 ^ p = shl_exact w p 64 fl (omega arith) in
    let b : (v * 2 ^ p) % 2 ^ 64 ≡ v * 2 ^ p = shl_exact w p 64 hv (omega arith) in
    let l : f * 2 ^ p ≤ x = rw e (field_le x p w) in
    let s : put x p w v + f * 2 ^ p ≡ x + v * 2 ^ p = rw e (put_sub x p w v) in
    record { below = omega arith; is = omega arith; fits = put_lt x p w v 64 hv h hx }

-- remainder i of r digits: it ends within its area, and one word read at its first byte holds it
pub record PackedAt (i r : ℕ) : Type 0 where
  pub small : i * r ≤ 63 * r
  pub word : (i * r) % 8 + r ≤ 64

pub packed_at : (i r : ℕ) → i < 64 → r ≤ 58 → PackedAt i r
packed_at i r h l = record { small = mul-le-mul_right r (omega arith); word = by_lt r 58 (λ m. omega arith) (λ m. last (omega arith)) }
  where
    last : r ≡ 58 → (i * r) % 8 + r ≤ 64
    last e = rw e (omega arith)

-- the eight bytes of a word that the library reads and writes are the number's
pub le_word : (x : ℕ) → x < 2 ^ 64 → le (to_le_bytes w64 x) ≡ x
unfolding le
le_word x h = omega (arith, from_le_bytes-to_le_bytes_8 x h)
