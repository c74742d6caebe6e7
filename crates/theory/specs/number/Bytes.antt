-- A list of bytes as one number, little-endian. An element counts modulo 256, so no law but `le_byte` and `le_inj`
-- has to ask that the elements are bytes (`Bytes`), which the type `List ℕ` does not say. Assumes nothing.
use Rattle.std.specs.Prelude.{ℕ, zero, suc, ◌+◌, ◌*◌, ◌/◌, ◌%◌, ◌^◌, ◌≤◌, ◌<◌, ◌≡◌, refl, List, [], ◌∷◌, ◌++◌, length, get_or, take, drop, set}
use Rattle.std.proofs.Common.{sym, ap, ap₂, ◌∙◌, append_assoc, add_comm, mod-eq_of_lt, mul-add, mul_comm, add-zero, div-one, mul-suc, mul_left_comm, arith, pow-add, shr-shr, length-take-le}
use Rattle.std.proofs.Math.Nat.{mod-one, zero-div, zero-mod, suc_inj}
use Rattle.std.proofs.lemmas.Nat.{mod-pow-add}
use Rattle.std.proofs.Math.Pow.{high, low}
use Rattle.std.proofs.lemmas.List.Edits.{sets, sets-eq}
use Rattle.std.proofs.lemmas.List.{drop-drop}
use borrow.Rule.Slice.PartMut.{put_mid}
use Rattle.theory.specs.number.Field.{field_div, put, field, field_mod}

unfoldable pub le : List ℕ → ℕ
le [] = 0
le (b ∷ s) = b % 256 + 256 * le s

abbrev pub Bytes : List ℕ → Type 0
Bytes s = (i : ℕ) → get_or s i 0 < 256

pow8 : (n : ℕ) → 2 ^ (8 * suc n) ≡ 256 * 2 ^ (8 * n)
pow8 n = rw (mul-suc 8 n, pow-add 2 (8 * n) 8) (mul_comm (2 ^ (8 * n)) 256)

pub le_lt : (s : List ℕ) → le s < 2 ^ (8 * length s)
unfolding le
le_lt [] = omega arith
le_lt (b ∷ s) = rw (pow8 (length s)) (omega (arith, le_lt s))

-- ---- parts of the list are fields of the number
-- the number without its lowest byte
shift : (b l o : ℕ) → (b % 256 + 256 * l) / 2 ^ (8 * suc o) ≡ l / 2 ^ (8 * o)
shift b l o =
    let e : (b % 256 + 256 * l) / 2 ^ 8 ≡ l = omega arith in
    rw (mul-suc 8 o, add_comm (8 * o) 8, ← shr-shr (b % 256 + 256 * l) 8 (8 * o), e)

pub le_drop : (o : ℕ) (s : List ℕ) → le (drop o s) ≡ le s / 2 ^ (8 * o)
unfolding le
le_drop zero s = sym (div-one (le s))
le_drop (suc o) [] = sym (zero-div _)
le_drop (suc o) (b ∷ s) = le_drop o s ∙ sym (shift b (le s) o)

le_take : (n : ℕ) (s : List ℕ) → le (take n s) ≡ le s % 2 ^ (8 * n)
unfolding le
le_take zero s = sym (mod-one (le s))
le_take (suc n) [] = sym (zero-mod _)
le_take (suc n) (b ∷ s) =
    let e : (b % 256 + 256 * le s) / 2 ^ 8 ≡ le s = omega arith in
    let m : (b % 256 + 256 * le s) % 2 ^ 8 ≡ b % 256 = omega arith in
    rw (mul-suc 8 n, mod-pow-add (b % 256 + 256 * le s) (8 * n) 8, e, m, le_take n s) (omega arith)

-- n bytes from byte o on
pub le_part : (n o : ℕ) (s : List ℕ) → le (take n (drop o s)) ≡ field (le s) (8 * o) (8 * n)
unfolding field
le_part n o s = le_take n (drop o s) ∙ rw (le_drop o s)

pub le_get_d : (i : ℕ) (s : List ℕ) → get_or s i 0 % 256 ≡ field (le s) (8 * i) 8
unfolding le field
le_get_d zero [] = refl
le_get_d zero (b ∷ s) = omega arith
le_get_d (suc i) [] = rw zero-div
le_get_d (suc i) (b ∷ s) = le_get_d i s ∙ rw (shift b (le s) i)

pub le_byte : (i : ℕ) (s : List ℕ) → get_or s i 0 < 256 → get_or s i 0 ≡ field (le s) (8 * i) 8
le_byte i s h = sym (mod-eq_of_lt h) ∙ le_get_d i s

-- ---- stores are puts
pub le_append : (s t : List ℕ) → le (s ++ t) ≡ le t * 2 ^ (8 * length s) + le s
unfolding le
le_append [] t = omega arith
le_append (b ∷ s) t = rw (le_append s t, pow8 (length s), mul_left_comm (le t) 256 (2 ^ (8 * length s))) (omega arith)

pub le_put_mid : (s : List ℕ) (o : ℕ) (vs : List ℕ) → o + length vs ≤ length s → le (put_mid o (length vs) s vs) ≡ put (le s) (8 * o) (8 * length vs) (le vs)
unfolding put
le_put_mid s o vs l =
    le_append (take o s) (vs ++ drop (length vs) (drop o s))
    ∙ rw (le_append vs (drop (length vs) (drop o s)), drop-drop (length vs) o s, le_drop (o + length vs) s, le_take o s, length-take-le o s (omega arith), mul-add 8 o (length vs))

pub le_sets : (s : List ℕ) (o : ℕ) (vs : List ℕ) → o + length vs ≤ length s → le (sets s o vs) ≡ put (le s) (8 * o) (8 * length vs) (le vs)
le_sets s o vs l =
    ap le (sets-eq vs s o l ∙ append_assoc (take o s) vs (drop (o + length vs) s))
    ∙ (rw drop-drop at (le_put_mid s o vs l))

pub le_set : (s : List ℕ) (i v : ℕ) → i < length s → v < 256 → le (set s i v) ≡ put (le s) (8 * i) 8 v
unfolding le
le_set s i v l h = rw (mod-eq_of_lt h, add-zero) at (le_sets s i (v ∷ []) (omega arith))

-- ---- the number determines the bytes
pub le_inj : (s t : List ℕ) → Bytes s → Bytes t → length s ≡ length t → le s ≡ le t → s ≡ t
unfolding le
le_inj [] [] h g l e = refl
le_inj [] (c ∷ t) h g l e = absurd (omega (arith, l))
le_inj (b ∷ s) [] h g l e = absurd (omega (arith, l))
le_inj (b ∷ s) (c ∷ t) h g l e =
    let x : b ≡ c = omega (arith, h 0, g 0, e) in
    let y : le s ≡ le t = omega (arith, h 0, g 0, e) in
    ap₂ (λ (a : ℕ) (r : List ℕ). a ∷ r) x (le_inj s t (λ i. h (suc i)) (λ i. g (suc i)) (suc_inj l) y)

-- ---- the bytes of a number
unfoldable pub to_bytes : ℕ → ℕ → List ℕ
to_bytes zero x = []
to_bytes (suc n) x = x % 256 ∷ to_bytes n (x / 256)

pub length_to_bytes : (n x : ℕ) → length (to_bytes n x) ≡ n
unfolding to_bytes
length_to_bytes zero x = refl
length_to_bytes (suc n) x = ap suc (length_to_bytes n (x / 256))

pub bytes_to_bytes : (n x : ℕ) → Bytes (to_bytes n x)
unfolding to_bytes
bytes_to_bytes zero x i = omega arith
bytes_to_bytes (suc n) x zero = omega arith
bytes_to_bytes (suc n) x (suc i) = bytes_to_bytes n (x / 256) i

-- ---- two lists in a row, and the bytes of a number, as fields
pub append_low : (s t : List ℕ) (p w : ℕ) → p + w ≤ 8 * length s → field (le (s ++ t)) p w ≡ field (le s) p w
append_low s t p w h =
    sym (field_mod (le (s ++ t)) (8 * length s) p w h) ∙ rw (le_append s t, low (le t) (8 * length s) (le_lt s))

pub append_high : (s t : List ℕ) (p w : ℕ) → field (le (s ++ t)) (8 * length s + p) w ≡ field (le t) p w
append_high s t p w =
    sym (field_div (le (s ++ t)) (8 * length s) p w) ∙ rw (le_append s t, high (le t) (8 * length s) (le_lt s))

pub le_to_bytes : (n x : ℕ) → x < 2 ^ (8 * n) → le (to_bytes n x) ≡ x
unfolding to_bytes le
le_to_bytes zero x h = omega (arith, h)
le_to_bytes (suc n) x h =
    let d : x / 256 < 2 ^ (8 * n) = omega (arith, pow8 n) in
    rw (le_to_bytes n (x / 256) d) (omega arith)

pub bytes_append : (s t : List ℕ) → Bytes s → Bytes t → Bytes (s ++ t)
bytes_append [] t hs ht i = ht i
bytes_append (b ∷ s) t hs ht zero = hs 0
bytes_append (b ∷ s) t hs ht (suc i) = bytes_append s t (λ j. hs (suc j)) ht i
