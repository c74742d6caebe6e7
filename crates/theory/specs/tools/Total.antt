-- Sums f 0 + .. + f (k - 1): all that is counted, fingerprints, ones and runends, is such a sum. Assumes nothing.
use Rattle.std.specs.Prelude.{ℕ, zero, suc, ◌+◌, ◌-◌, ◌≤◌, ◌<◌, ◌≡◌, refl}
use Rattle.std.proofs.Common.{arith, add-zero, add-suc}
use Rattle.std.proofs.Math.Decide.{dec_lt}

-- how many have a quotient below k
unfoldable pub total : (ℕ → ℕ) → ℕ → ℕ
total n zero = 0
total n (suc k) = total n k + n k

pub total_suc : (f : ℕ → ℕ) (t : ℕ) → total f (suc t) ≡ total f t + f t
unfolding total
total_suc f t = refl

pub total_zero : (f : ℕ → ℕ) → total f 0 ≡ 0
unfolding total
total_zero f = refl

pub total_add : (n : ℕ → ℕ) (y k : ℕ) → total n (y + k) ≡ total n y + total (λ i. n (y + i)) k
unfolding total
total_add n y zero = simp add-zero
total_add n y (suc k) = rw (add-suc) (omega (arith, total_add n y k))

pub total_same : (n n' : ℕ → ℕ) (k : ℕ) → ((i : ℕ) → i < k → n i ≡ n' i) → total n k ≡ total n' k
unfolding total
total_same n n' zero h = refl
total_same n n' (suc k) h = omega (arith, total_same n n' k (λ i l. h i (omega arith)), h k (omega arith))

pub total_mono : (f : ℕ → ℕ) (t k : ℕ) → total f t ≤ total f (t + k)
unfolding total
total_mono f t zero = rw add-zero (omega arith)
total_mono f t (suc k) = rw (add-suc t k) (omega (arith, total_mono f t k))

pub total_le : (f : ℕ → ℕ) (s t : ℕ) → s ≤ t → total f s ≤ total f t
total_le f s t l =
    let e : s + (t - s) ≡ t = omega arith in
    rw e at (total_mono f s (t - s))

-- a set bit is told by how many stand before it
pub select_unique : (f : ℕ → ℕ) (s t : ℕ) → 0 < f s → 0 < f t → total f s ≡ total f t → s ≡ t
select_unique f s t a b e = go (dec_lt s t) (dec_lt t s)
  where
    go : Dec (s < t) → Dec (t < s) → s ≡ t
    go (yes l) d = absurd (omega (arith, total_suc f s, total_le f (suc s) t l))
    go (no l) (yes l') = absurd (omega (arith, total_suc f t, total_le f (suc t) s l'))
    go (no l) (no l') = omega arith

-- and an image passes, read from its own carry before quotient 0
pub total_one : (n : ℕ → ℕ) (x k : ℕ) → x < k → n x ≤ total n k
total_one n x k l = omega (arith, total_suc n x, total_le n (suc x) k l)

pub total_empty : (f : ℕ → ℕ) (k : ℕ) → ((i : ℕ) → i < k → f i ≡ 0) → total f k ≡ 0
total_empty f zero h = total_zero f
total_empty f (suc k) h = omega (arith, total_suc f k, h k (omega arith), total_empty f k (λ i l. h i (omega arith)))
