-- The carry (docs/RULES.md, "The image of a holding"), over all of ℕ: `n` is periodic, and a quotient's run stands from `start x` on, to be read modulo m at the very end.
-- Assumes nothing.
use Prim.Native.Nat.{ℕ, zero, suc, ◌+◌, ◌-◌, ◌*◌, ◌/◌, ◌%◌, ◌≤◌, ◌<◌, max}
use Rattle.std.specs.Prelude.{◌≡◌, ◌⊎◌}
use Rattle.std.proofs.Math.Path.{refl}
use Rattle.std.proofs.Common.{sym, ap, ◌∙◌, add-suc, add_comm, div-add-mod', mul-le-mul_right, mul-le-mul_left, eq-zero-or-pos}
use Rattle.std.proofs.Math.Logic.{inl, inr}
use native.Mathlib.Omega.{arith}
use Rattle.std.proofs.Math.Decide.{dec_lt, ℕ_discrete}
use Rattle.std.proofs.Math.Nat.{add-zero, suc-add, zero-add}
use Rattle.theory.specs.tools.Total.{total, total_add, total_same}
use Rattle.theory.specs.Image.{walk, carry, start}
use Rattle.theory.specs.carry.Walk.{walk_closes, walk_again, walk_add}

-- n repeats after m quotients, and fewer than m are met in a round
pub record Round (m : ℕ) (n : ℕ → ℕ) : Type 0 where
  pub per : (x : ℕ) → n (x + m) ≡ n x
  pub few : total n m < m

-- no run reaches the slot x
abbrev pub Free : ℕ → (ℕ → ℕ) → ℕ → Type 0
Free m n x = carry m n x + n x ≡ 0

-- the first free slot from q on
pub record FirstFree (m : ℕ) (n : ℕ → ℕ) (q : ℕ) : Type 0 where
  pub at : ℕ
  pub from : q ≤ at
  pub to : at < q + m
  pub free : Free m n at
  pub before : (x : ℕ) → q ≤ x → x < at → 0 < carry m n x + n x

module _ (m : ℕ) (n : ℕ → ℕ) where
  pub carry_suc : (x : ℕ) → carry m n (suc x) ≡ carry m n x + n x - 1
  unfolding carry walk
  carry_suc x = refl

  pub carry_from : (y k : ℕ) → carry m n (y + k) ≡ walk (λ i. n (y + i)) (carry m n y) k
  unfolding carry
  carry_from y k = walk_add n (walk n 0 m) y k

  pub start_carry : (x : ℕ) → start m n x ≡ x + carry m n x
  unfolding start
  start_carry x = refl

  pub start_suc : (x : ℕ) → start m n (suc x) ≡ max (suc x) (start m n x + n x)
  unfolding start
  start_suc x = omega (arith, carry_suc x)

  pub start_mono : (x k : ℕ) → start m n x ≤ start m n (x + k)
  start_mono x zero = rw add-zero (omega arith)
  start_mono x (suc k) = rw add-suc (omega (arith, start_mono x k, start_suc (x + k)))

  -- a run ends before a later one starts
  pub end_le_add : (x k : ℕ) → start m n x + n x ≤ start m n (suc x + k)
  end_le_add x k = omega (arith, start_mono (suc x) k, start_suc x)

  pub end_le : (x y : ℕ) → x < y → start m n x + n x ≤ start m n y
  end_le x y l =
      let e : suc x + (y - suc x) ≡ y = omega arith in
      rw e at (end_le_add x (y - suc x))

  pub start_le : (x y : ℕ) → x ≤ y → start m n x ≤ start m n y
  start_le x y l =
      let e : x + (y - x) ≡ y = omega arith in
      rw e at (start_mono x (y - x))

  -- where x's slot is free, all earlier runs end at or before it
  pub free_start : (x : ℕ) → Free m n x → start m n x ≡ x
  free_start x f = omega (arith, start_carry x)

  pub before_free : (x e : ℕ) → x < e → Free m n e → start m n x + n x ≤ e
  before_free x e l f = omega (arith, end_le x e l, free_start e f)

  -- earlier in the order of (quotient, place in the run) is earlier in the slots
  pub places_lt : (x j y i : ℕ) → x < y → j < n x → start m n x + j < start m n y + i
  places_lt x j y i l h = omega (arith, end_le x y l)

  -- any m quotients in a row meet as many
  pub total_window : ((x : ℕ) → n (x + m) ≡ n x) → (y : ℕ) → total (λ i. n (y + i)) m ≡ total n m
  total_window per y =
      let back : total (λ i. n (m + i)) y ≡ total n y = total_same (λ i. n (m + i)) n y (λ i l. ap n (add_comm m i) ∙ per i) in
      let turn : total n (y + m) ≡ total n (m + y) = ap (total n) (add_comm y m) in
      omega (arith, total_add n y m, total_add n m y)

  module _ (r : Round m n) where
    pub carry_per : (x : ℕ) → carry m n (x + m) ≡ carry m n x
    unfolding carry walk
    carry_per zero = rw zero-add (walk_again n m r.few)
    carry_per (suc x) = rw suc-add (omega (arith, carry_per x, r.per x))

    pub start_per : (x : ℕ) → start m n (x + m) ≡ start m n x + m
    start_per x = omega (arith, carry_per x, start_carry x, start_carry (x + m))

    -- the carry is the only value that a round from y comes back to
    carry_round : (y : ℕ) → walk (λ i. n (y + i)) (carry m n y) m ≡ carry m n y
    carry_round y = sym (carry_from y m) ∙ carry_per y

    pub carry_unique : (y c : ℕ) → walk (λ i. n (y + i)) c m ≡ c → c ≡ carry m n y
    carry_unique y c e =
        let few : total (λ i. n (y + i)) m < m = omega (arith, r.few, total_window r.per y) in
        omega (arith, walk_closes (λ i. n (y + i)) c m few e, walk_closes (λ i. n (y + i)) (carry m n y) m few (carry_round y))

    -- from q on: a first free slot among k, or none, and then every slot took one away
    search_free : (q k : ℕ) → (k ≤ m) → FirstFree m n q ⊎ (((x : ℕ) → q ≤ x → x < q + k → 0 < carry m n x + n x) × (carry m n (q + k) + k ≡ carry m n q + total (λ i. n (q + i)) k))
    unfolding total
    search_free q zero l = inr ((λ x a b. absurd (omega (arith, add-zero q))), simp add-zero)
    search_free q (suc k) l = go (search_free q k (omega arith)) (eq-zero-or-pos (carry m n (q + k) + n (q + k)))
      where
        go : FirstFree m n q ⊎ (((x : ℕ) → q ≤ x → x < q + k → 0 < carry m n x + n x) × (carry m n (q + k) + k ≡ carry m n q + total (λ i. n (q + i)) k))
            → (carry m n (q + k) + n (q + k) ≡ 0) ⊎ (0 < carry m n (q + k) + n (q + k))
            → FirstFree m n q ⊎ (((x : ℕ) → q ≤ x → x < q + suc k → 0 < carry m n x + n x) × (carry m n (q + suc k) + suc k ≡ carry m n q + (total (λ i. n (q + i)) k + n (q + k))))
        go (inl f) d = inl f
        go (inr p) (inl e) = inl (record { at = q + k; from = omega arith; to = omega arith; free = e; before = p.0 })
        go (inr p) (inr h) = inr ((λ x a b. here x a (ℕ_discrete x (q + k)) b), rw (add-suc q k) (omega (arith, carry_suc (q + k))))
          where
            here : (x : ℕ) → q ≤ x → Dec (x ≡ q + k) → x < q + suc k → 0 < carry m n x + n x
            here x a (yes e) b = rw e h
            here x a (no ne) b = p.0 x a (omega arith)

    pub first_free : (q : ℕ) → FirstFree m n q
    first_free q = go (search_free q m (omega arith))
      where
        go : FirstFree m n q ⊎ (((x : ℕ) → q ≤ x → x < q + m → 0 < carry m n x + n x) × (carry m n (q + m) + m ≡ carry m n q + total (λ i. n (q + i)) m)) → FirstFree m n q
        go (inl f) = f
        go (inr p) = absurd (omega (arith, r.few, p.1, total_window r.per q, carry_per q))

  -- the quotient whose run, or whose free slot, t is
  pub locate : (y k t : ℕ) → start m n y ≤ t → t < start m n (y + k) → (x : ℕ) × (y ≤ x) × (x < y + k) × (start m n x ≤ t) × (t < start m n (suc x))
  locate y zero t a b = absurd (omega (arith, ap (start m n) (add-zero y)))
  locate y (suc k) t a b = go (λ h. locate y k t a h) (dec_lt t (start m n (y + k)))
    where
      go : (t < start m n (y + k) → (x : ℕ) × (y ≤ x) × (x < y + k) × (start m n x ≤ t) × (t < start m n (suc x)))
          → Dec (t < start m n (y + k)) → (x : ℕ) × (y ≤ x) × (x < y + suc k) × (start m n x ≤ t) × (t < start m n (suc x))
      go f (yes h) = let p = f h in (p.0, p.1, omega arith, p.3, p.4)
      go f (no h) = (y + k, omega arith, omega arith, omega arith, rw (add-suc y k) at b)

  -- a slot between the starts of two quotients is free, or in the run of one of those from the one to the other
  pub cover : (y k t : ℕ) → start m n y ≤ t → t < start m n (y + k) → ((x : ℕ) × (j : ℕ) × (y ≤ x) × (x < y + k) × (j < n x) × (start m n x + j ≡ t)) ⊎ Free m n t
  cover y k t a b = go (locate y k t a b)
    where
      go : ((x : ℕ) × (y ≤ x) × (x < y + k) × (start m n x ≤ t) × (t < start m n (suc x))) → ((x : ℕ) × (j : ℕ) × (y ≤ x) × (x < y + k) × (j < n x) × (start m n x + j ≡ t)) ⊎ Free m n t
      go p = at (dec_lt t (start m n p.0 + n p.0))
        where
          at : Dec (t < start m n p.0 + n p.0) → ((x : ℕ) × (j : ℕ) × (y ≤ x) × (x < y + k) × (j < n x) × (start m n x + j ≡ t)) ⊎ Free m n t
          at (yes h) = inl (p.0, t - start m n p.0, p.1, p.2, omega arith, omega arith)
          at (no h) =
              let e : p.0 ≡ t = omega (arith, start_suc p.0, start_carry p.0) in
              let f : Free m n p.0 = omega (arith, start_suc p.0, start_carry p.0) in
              inr (rw e at f)

  -- a slot of a run is not free
  pub run_not_free : (x j : ℕ) → j < n x → ¬ (Free m n (start m n x + j))
  run_not_free x j h f = by (dec_lt x (start m n x + j))
    where
      by : Dec (x < start m n x + j) → ⊥
      by (yes l) = omega (arith, before_free x (start m n x + j) l f)
      by (no l) =
          let e : start m n x + j ≡ x = omega (arith, start_carry x) in
          omega (arith, rw e at f)

  -- what is held and the free slots make up the slots passed
  pub conserved : (x : ℕ) → carry m n x + x ≡ carry m n 0 + total n x + total (λ i. 1 - (carry m n i + n i)) x
  unfolding total
  conserved zero = omega arith
  conserved (suc x) = omega (arith, conserved x, carry_suc x)

  pub free_slots : Round m n → total (λ i. 1 - (carry m n i + n i)) m + total n m ≡ m
  free_slots r = omega (arith, conserved m, carry_per r 0, ap (carry m n) (zero-add m))

-- two numbers less than m apart that agree modulo m are equal
pub mod_window : (m a s t : ℕ) → a ≤ s → s < a + m → a ≤ t → t < a + m → s % m ≡ t % m → s ≡ t
mod_window m a s t hs hs' ht ht' e = go (dec_lt (s / m) (t / m)) (dec_lt (t / m) (s / m))
  where
    go : Dec (s / m < t / m) → Dec (t / m < s / m) → s ≡ t
    go (yes h) d = absurd (omega (arith, mul-le-mul_right m h, div-add-mod' s m, div-add-mod' t m))
    go (no h) (yes h') = absurd (omega (arith, mul-le-mul_right m h', div-add-mod' s m, div-add-mod' t m))
    go (no h) (no h') =
        let f : s / m ≡ t / m = omega arith in
        omega (arith, ap (λ q. q * m) f, div-add-mod' s m, div-add-mod' t m)

-- two places of runs that stand in one slot are one place
pub places_distinct : (m : ℕ) (n : ℕ → ℕ) → Round m n → (x j y i : ℕ) → x < m → y < m → j < n x → i < n y
    → (start m n x + j) % m ≡ (start m n y + i) % m → (x ≡ y) × (j ≡ i)
places_distinct m n r x j y i hx hy hj hi e = go (dec_lt x y) (dec_lt y x)
  where
    low : (z : ℕ) → start m n 0 ≤ start m n z
    low z = start_le m n 0 z (omega arith)

    high : (z : ℕ) → z < m → start m n z + n z ≤ start m n 0 + m
    high z h = omega (arith, end_le m n z m h, ap (start m n) (zero-add m), start_per m n r 0)

    eq : start m n x + j ≡ start m n y + i
    eq = mod_window m (start m n 0) (start m n x + j) (start m n y + i) (omega (arith, low x)) (omega (arith, high x hx)) (omega (arith, low y)) (omega (arith, high y hy)) e

    go : Dec (x < y) → Dec (y < x) → (x ≡ y) × (j ≡ i)
    go (yes l) d = absurd (omega (arith, eq, places_lt m n x j y i l hj))
    go (no l) (yes l') = absurd (omega (arith, eq, places_lt m n y i x j l' hi))
    go (no l) (no l') =
        let f : x ≡ y = omega arith in
        (f, omega (arith, eq, ap (start m n) f))

-- what holds of every number in a window of m, and a period of m on and back, holds of all
module _ (m : ℕ) (P : ℕ → Type 0) (up : (x : ℕ) → P x → P (x + m)) (down : (x : ℕ) → P (x + m) → P x) (pos : 0 < m) where
  per_up : (y : ℕ) → ((x : ℕ) → y ≤ x → x < y + m → P x) → (k x : ℕ) → y ≤ x → x < y + m + k → P x
  per_up y h zero x a b = h x a (omega arith)
  per_up y h (suc k) x a b = go (dec_lt x (y + m)) (λ l. per_up y h k (x - m) (omega arith) (omega arith))
    where
      go : Dec (x < y + m) → (y + m ≤ x → P (x - m)) → P x
      go (yes l) f = h x a l
      go (no l) f =
          let e : x - m + m ≡ x = omega arith in
          rw e at (up (x - m) (f (omega arith)))

  per_down : (j x : ℕ) → P (x + j * m) → P x
  per_down zero x p =
      let e : x + 0 * m ≡ x = omega arith in
      rw e at p
  per_down (suc j) x p =
      let e : x + suc j * m ≡ (x + j * m) + m = omega arith in
      per_down j x (down (x + j * m) (rw e at p))

  pub per_all : (y : ℕ) → ((x : ℕ) → y ≤ x → x < y + m → P x) → (x : ℕ) → P x
  per_all y h x = per_down y x (per_up y h (x + y * m) (x + y * m) (omega (arith, mul-le-mul_left y pos)) (omega arith))
