-- The places of a listing: which run the k-th fingerprint held stands in and where, and the same of the next. Assumes nothing.
use Prim.Native.Nat.{ℕ, zero, suc, ◌+◌, ◌-◌, ◌*◌, ◌%◌, ◌^◌, ◌≤◌, ◌<◌, max}
use Rattle.std.specs.Prelude.{◌≡◌, List, length, get_or}
use Rattle.std.proofs.Common.{sym, ap, ◌∙◌, arith}
use Rattle.std.proofs.Math.Decide.{dec_lt}
use Rattle.std.proofs.Math.Nat.{mul-le-mul_right, suc-mul}
use Rattle.std.proofs.Math.Arith.{digits_div}
use Rattle.std.proofs.Math.Pow.{shl_exact, pow-add, pow_mono}
use Rattle.theory.specs.tools.Total.{total, total_zero, total_suc, total_le, total_same}
use Rattle.theory.specs.Holding.{Holding, run}
use Rattle.theory.specs.list.Runs.{runs_total, run_under, under_at}
use Rattle.theory.specs.list.Seek.{listing_at}
use Rattle.theory.specs.Shape.{Widths, slots}
use Rattle.theory.specs.Image.{many, rest_at, start}
use Rattle.theory.specs.carry.Carry.{Round, FirstFree, first_free, before_free, start_suc}
use Rattle.theory.specs.images.ByViews.{many_at, rest_at_lem}
use Rattle.theory.specs.Listing.{quotient_at, slot_at}

-- ---- sums
-- what adds nothing is passed
pub total_skip : (f : ℕ → ℕ) (a b : ℕ) → a ≤ b → ((z : ℕ) → a ≤ z → z < b → f z ≡ 0) → total f b ≡ total f a
total_skip f a zero h e = ap (total f) (omega arith)
total_skip f a (suc b) h e = go (dec_lt b a) (λ l. total_skip f a b l (λ z u v. e z u (omega arith)))
  where
    go : Dec (b < a) → (a ≤ b → total f b ≡ total f a) → total f (suc b) ≡ total f a
    go (yes l) ih = ap (total f) (omega arith)
    go (no l) ih = omega (arith, total_suc f b, e b (omega arith) (omega arith), ih (omega arith))

-- the one whose share t falls in
pub total_find : (f : ℕ → ℕ) (k t : ℕ) → t < total f k → (x : ℕ) × (x < k) × (total f x ≤ t) × (t < total f x + f x)
total_find f zero t b = absurd (omega (arith, total_zero f))
total_find f (suc k) t b = go (dec_lt t (total f k)) (λ c. total_find f k t c)
  where
    go : Dec (t < total f k) → (t < total f k → (x : ℕ) × (x < k) × (total f x ≤ t) × (t < total f x + f x)) → (x : ℕ) × (x < suc k) × (total f x ≤ t) × (t < total f x + f x)
    go (yes c) ih = let p = ih c in (p.0, omega arith, p.2, p.3)
    go (no c) ih = (k, omega arith, omega arith, omega (arith, total_suc f k))

-- ---- slots
-- behind a run, past quotients that have none
pub start_next : (m : ℕ) (n : ℕ → ℕ) (x y : ℕ) → x < y → ((z : ℕ) → x < z → z < y → n z ≡ 0) → start m n y ≡ max y (start m n x + n x)
start_next m n x zero l e = absurd (omega arith)
start_next m n x (suc y) l e = go (dec_lt x y) (λ k. start_next m n x y k (λ z u v. e z u (omega arith)))
  where
    go : Dec (x < y) → (x < y → start m n y ≡ max y (start m n x + n x)) → start m n (suc y) ≡ max (suc y) (start m n x + n x)
    go (yes k) ih = omega (arith, start_suc m n y, ih k, e y k (omega arith))
    go (no k) ih =
        let f : x ≡ y = omega arith in
        rw f (start_suc m n y)

-- a run ends less than a round behind its quotient
pub run_within : (m : ℕ) (n : ℕ → ℕ) → Round m n → (x : ℕ) → 0 < n x → start m n x + n x < x + m
run_within m n r x p = go (dec_lt x z.at)
  where
    z : FirstFree m n x
    z = first_free m n r x

    go : Dec (x < z.at) → start m n x + n x < x + m
    go (yes l) = omega (arith, before_free m n x z.at l z.free, z.to)
    go (no l) =
        let e : z.at ≡ x = omega (arith, z.from) in
        absurd (omega (arith, z.free, ap n e))

-- ---- the k-th fingerprint held stands at place j of the run of x
pub record Kth (m R : ℕ) (l : List ℕ) (k x j : ℕ) : Type 0 where
  pub within : x < m
  pub inside : j < many m R l x
  pub index : k ≡ total (many m R l) x + j

module _ (m R : ℕ) (l : List ℕ) (pos : 0 < R) (h : Holding m R l) where
  total_runs : (x : ℕ) → x ≤ m → total (many m R l) x ≡ total (λ y. length (run R l y)) x
  total_runs x b = total_same _ _ x (λ i c. many_at m R l i (omega arith))

  total_held : total (many m R l) m ≡ length l
  total_held = total_runs m (omega arith) ∙ runs_total R pos l m h.ascending h.under

  pub kth : (k : ℕ) → k < length l → (x : ℕ) × (j : ℕ) × Kth m R l k x j
  kth k b =
      let p = total_find (many m R l) m k (omega (arith, total_held)) in
      (p.0, k - total (many m R l) p.0, record { within = p.1; inside = omega arith; index = omega arith })

  module _ (k x j : ℕ) (a : Kth m R l k x j) where
    pub kth_few : k < length l
    kth_few = omega (arith, a.inside, a.index, total_held, total_suc (many m R l) x, total_le (many m R l) (suc x) m a.within)

    pub kth_is : get_or l k 0 ≡ x * R + rest_at m R l x j
    kth_is =
        let s = many_at m R l x a.within in
        let e : k ≡ total (λ y. length (run R l y)) x + j = omega (arith, a.index, total_runs x (omega (arith, a.within))) in
        rw e (listing_at R pos l m x j h.ascending h.under a.within (omega (arith, a.inside)) ∙ ap (λ z. x * R + z) (sym (rest_at_lem m R l x j a.within)))

    rest_lt : rest_at m R l x j < R
    rest_lt = rw (rest_at_lem m R l x j a.within) (under_at R (run R l x) j (run_under R pos l x) (omega (arith, a.inside, many_at m R l x a.within)))

    pub kth_quotient : quotient_at R l k ≡ x
    unfolding quotient_at
    kth_quotient = rw kth_is (digits_div x rest_lt)

    pub kth_slot : slot_at m R l k ≡ (start m (many m R l) x + j) % m
    unfolding slot_at
    kth_slot = rw kth_quotient (ap (λ z. (start m (many m R l) x + z) % m) (omega (arith, a.index)))

    -- the next of the same run
    pub kth_inner : suc j < many m R l x → Kth m R l (suc k) x (suc j)
    kth_inner b = record { within = a.within; inside = b; index = omega (arith, a.index) }

    -- the last of its run: the next is the first of the next run, or there is none
    pub kth_next : suc j ≡ many m R l x → (y : ℕ) → x < y → y < m → 0 < many m R l y → ((z : ℕ) → x < z → z < y → many m R l z ≡ 0) → Kth m R l (suc k) y 0
    kth_next e y u v p none = record {
      within = v;
      inside = p;
      index = omega (arith, a.index, total_suc (many m R l) x, total_skip (many m R l) (suc x) y u (λ z b c. none z b c));
    }

    pub kth_last : suc j ≡ many m R l x → ((z : ℕ) → x < z → z < m → many m R l z ≡ 0) → suc k ≡ length l
    kth_last e none = omega (arith, a.index, total_held, total_suc (many m R l) x, total_skip (many m R l) (suc x) m a.within (λ z b c. none z b c))

  -- the first fingerprint held has the first quotient that has any
  pub kth_first : (x : ℕ) → x < m → 0 < many m R l x → ((z : ℕ) → z < x → many m R l z ≡ 0) → Kth m R l 0 x 0
  kth_first x b p none = record { within = b; inside = p; index = omega (arith, total_zero (many m R l), total_skip (many m R l) 0 x (omega arith) (λ z u v. none z v)) }

  pub none_held : ((z : ℕ) → z < m → many m R l z ≡ 0) → length l ≡ 0
  none_held none = omega (arith, total_held, total_zero (many m R l), total_skip (many m R l) 0 m (omega arith) (λ z u v. none z v))

-- a quotient and a remainder make a fingerprint of 64 digits at most
module _ (q r x e : ℕ) (w : Widths q r) (b : x < slots q) (l : e < 2 ^ r) where
  pub join_high : (x * 2 ^ r) % 2 ^ 64 ≡ x * 2 ^ r
  unfolding slots
  join_high = shl_exact q r 64 b w.sum

  pub join_lt : x * 2 ^ r + e < 2 ^ 64
  unfolding slots
  join_lt =
      let a : suc x * 2 ^ r ≤ 2 ^ q * 2 ^ r = mul-le-mul_right (2 ^ r) b in
      omega (arith, suc-mul x (2 ^ r), pow-add 2 q r, pow_mono w.sum)
