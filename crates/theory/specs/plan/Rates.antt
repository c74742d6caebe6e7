-- The floats of planning. Halving a power of two is exact from 1 down to 2 ^ -64, and so is rbits + 2.125: each is one test that antt computes at
-- every width. What a walk by halving finds is the least k of docs/RULES.md, "Planning". Assumes nothing.
use Rattle.std.specs.Prelude.{ℕ, zero, suc, ◌+◌, ◌-◌, ◌*◌, ◌≤◌, ◌<◌, ◌≡◌, refl, Bool, true, false, cond, ◌&&◌, pos, negsuc, T, eqb, Float}
use Rattle.std.proofs.Common.{arith, eq-or-lt_of_le, le_of_suc-le-suc, sym, ap₂, subst, ◌∙◌, ⊎_elim, eqb→eq}
use Rattle.std.specs.Float.Ieee
use Rattle.std.specs.Float.{nan, inf, fin, binary64}
use Rattle.std.specs.Float.Ieee.{mul, add, lt}
use Rattle.std.specs.Float.Ieee.Fits.{and_l, and_r}
use Rattle.theory.specs.tools.Cases.{by_eq}
use Rattle.theory.specs.Planning.{half_pow, per_item, halvings, rbits_for}

-- ---- a test that passes at each number below n
all_below : (ℕ → Bool) → ℕ → Bool
all_below f zero = true
all_below f (suc n) = f n && all_below f n

below_at : (f : ℕ → Bool) (n k : ℕ) → T (all_below f n) → k < n → T (f k)
unfolding all_below
below_at f zero k t h = absurd (omega (arith, h))
below_at f (suc n) k t h =
    ⊎_elim (λ e. subst (λ (m : ℕ). T (f m)) (sym e) (and_l (f n) (all_below f n) t))
    (λ l. below_at f n k (and_r (f n) (all_below f n) t) l) (eq-or-lt_of_le (le_of_suc-le-suc h))

-- a float is m * 2 ^ -(j + 1)
is_part : ℕ → ℕ → Float → Bool
is_part m j nan = false
is_part m j (inf s) = false
is_part m j (fin true n e) = false
is_part m j (fin false n (pos e)) = false
is_part m j (fin false n (negsuc i)) = eqb n m && eqb i j

is_part→ : (m j : ℕ) (x : Float) → T (is_part m j x) → x ≡ fin false m (negsuc j)
unfolding is_part
is_part→ m j nan t = absurd t
is_part→ m j (inf s) t = absurd t
is_part→ m j (fin true n e) t = absurd t
is_part→ m j (fin false n (pos e)) t = absurd t
is_part→ m j (fin false n (negsuc i)) t =
    ap₂ (λ (a b : ℕ). fin false a (negsuc b)) (eqb→eq n m (and_l (eqb n m) (eqb i j) t)) (eqb→eq i j (and_r (eqb n m) (eqb i j) t))

-- ---- the literals 0.5 and 1.0
pub half_bits : Ieee.of_bits binary64 4602678819172646912 ≡ half_pow 1
unfolding Ieee.of_bits
half_bits = refl

pub one_bits : Ieee.of_bits binary64 4607182418800017408 ≡ half_pow 0
unfolding Ieee.of_bits
one_bits = refl

-- ---- halving is exact
halves : ℕ → Bool
unfolding is_part mul
halves k = is_part 1 k (mul binary64 (half_pow k) (half_pow 1))

pub halve : (k : ℕ) → k < 64 → mul binary64 (half_pow k) (half_pow 1) ≡ half_pow (suc k)
unfolding halves all_below
halve k h = is_part→ 1 k _ (below_at halves 64 k tt h)

-- ---- rbits + 2.125 is exact: the sum of a width and the literal 2.125
sums : ℕ → Bool
unfolding is_part add Ieee.of_int Ieee.of_bits
sums k = is_part (8 * k + 17) 2 (add binary64 (Ieee.of_int binary64 (pos k)) (Ieee.of_bits binary64 4611967493404098560))

pub per_item_lem : (k : ℕ) → k < 64 → add binary64 (Ieee.of_int binary64 (pos k)) (Ieee.of_bits binary64 4611967493404098560) ≡ per_item k
unfolding sums all_below
per_item_lem k h = is_part→ (8 * k + 17) 2 _ (below_at sums 64 k tt h)

-- ---- the walk: it stops where the rate is not below, and goes on where it is
pub halvings_here : (j k : ℕ) (rate : Float) → lt rate (half_pow k) ≡ false → halvings j k rate ≡ k
unfolding halvings
halvings_here zero k rate e = refl
halvings_here (suc j) k rate e = rw e

pub halvings_next : (j k : ℕ) (rate : Float) → lt rate (half_pow k) ≡ true → halvings (suc j) k rate ≡ halvings j (suc k) rate
unfolding halvings
halvings_next j k rate e = rw e

-- the same as code meets it: 64 - k halvings are left
pub halvings_step : (k : ℕ) (rate : Float) → k < 64 → lt rate (half_pow k) ≡ true → halvings (64 - k) k rate ≡ halvings (64 - (k + 1)) (k + 1) rate
halvings_step k rate l e =
    let n : 64 - k ≡ suc (64 - (k + 1)) = omega arith in
    let s : suc k ≡ k + 1 = omega arith in
    rw n (halvings_next (64 - (k + 1)) k rate e ∙ rw s)

pub halvings_end : (k : ℕ) (rate : Float) → 64 ≤ k → halvings (64 - k) k rate ≡ k
unfolding halvings
halvings_end k rate h =
    let e : 64 - k ≡ 0 = omega arith in
    rw e

-- ---- what it finds: at least k and at most j more, no rate below it there unless it is the last, and the rate below all before it
pub record Halved (j k : ℕ) (rate : Float) (r : ℕ) : Type 0 where
  pub low : k ≤ r
  pub high : r ≤ k + j
  pub below : (i : ℕ) → k ≤ i → i < r → lt rate (half_pow i) ≡ true
  pub stop : r < k + j → lt rate (half_pow r) ≡ false

halved : (j k : ℕ) (rate : Float) → Halved j k rate (halvings j k rate)
unfolding halvings
halved zero k rate = record { low = omega arith; high = omega arith; below = λ i a b. absurd (omega arith); stop = λ l. absurd (omega arith) }
halved (suc j) k rate = go (lt rate (half_pow k)) refl (halved j (suc k) rate)
  where
    go : (b : Bool) → lt rate (half_pow k) ≡ b → Halved j (suc k) rate (halvings j (suc k) rate) → Halved (suc j) k rate (cond b (halvings j (suc k) rate) k)
    go true e h = record {
      low = omega (arith, h.low);
      high = omega (arith, h.high);
      below = λ i a b. by_eq i k (λ s. rw s e) (λ s. h.below i (omega arith) b);
      stop = λ l. h.stop (omega arith);
    }
    go false e h = record { low = omega arith; high = omega arith; below = λ i a b. absurd (omega arith); stop = λ l. e }

-- rbits as the rules have it: from 1 to 64, the rate below each 2 ^ -k before it and, if it is not 64, not below its own
pub rbits_halved : (rate : Float) → Halved 63 1 rate (rbits_for rate)
unfolding rbits_for
rbits_halved rate = halved 63 1 rate

pub rbits_nan : rbits_for nan ≡ 1
unfolding rbits_for lt
rbits_nan = halvings_here 63 1 nan refl
