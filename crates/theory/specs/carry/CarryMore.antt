-- One copy more with the quotient q: the carry grows by one behind q, as far as the first free slot, and nowhere else. Read backwards: one copy fewer.
-- Assumes nothing.
use Prim.Native.Nat.{ℕ, zero, suc, ◌+◌, ◌-◌, ◌≤◌, ◌<◌, min}
use Rattle.std.specs.Prelude.{◌≡◌}
use Rattle.std.proofs.Common.{sym, ◌∙◌, add-suc}
use Rattle.std.proofs.Math.Path.{ap}
use native.Mathlib.Omega.{arith}
use Rattle.std.proofs.Math.Decide.{dec_lt, ℕ_discrete}
use Rattle.std.proofs.Math.Nat.{add-zero}
use Rattle.theory.specs.Image.{carry, walk}
use Rattle.theory.specs.carry.Carry.{Round, FirstFree, carry_suc, carry_from, carry_per, carry_unique}

-- 1 up to e, 0 behind it
unfoldable pub upto : ℕ → ℕ → ℕ
upto e x = min 1 (suc e - x)

pub upto_in : (e x : ℕ) → x ≤ e → upto e x ≡ 1
unfolding upto
upto_in e x l = omega arith

pub upto_out : (e x : ℕ) → e < x → upto e x ≡ 0
unfolding upto
upto_out e x l = omega arith

module _ (m : ℕ) (n n' : ℕ → ℕ) (q : ℕ) (more : n' q ≡ suc (n q)) (same : (x : ℕ) → q < x → x < q + m → n' x ≡ n x) where
  module _ (r : Round m n) (r' : Round m n') (f : FirstFree m n q) where
    -- the step of the grown carry, between q and the next q
    step : (x : ℕ) → q ≤ x → carry m n x + upto f.at x + n x - 1 ≡ carry m n (suc x) + upto f.at (suc x)
    step x l = go (dec_lt x f.at) (ℕ_discrete x f.at)
      where
        go : Dec (x < f.at) → Dec (x ≡ f.at) → carry m n x + upto f.at x + n x - 1 ≡ carry m n (suc x) + upto f.at (suc x)
        go (yes h) d = omega (arith, f.before x l h, carry_suc m n x, upto_in f.at x (omega arith), upto_in f.at (suc x) h)
        go (no h) (yes e) =
            let z : carry m n x + n x ≡ 0 = rw e f.free in
            omega (arith, carry_suc m n x, upto_in f.at x (omega arith), upto_out f.at (suc x) (omega arith))
        go (no h) (no e) = omega (arith, carry_suc m n x, upto_out f.at x (omega arith), upto_out f.at (suc x) (omega arith))

    grown : (i : ℕ) → i < m → walk (λ k. n' (suc q + k)) (carry m n (suc q) + upto f.at (suc q)) i ≡ carry m n (suc q + i) + upto f.at (suc q + i)
    unfolding walk
    grown zero l = simp add-zero
    grown (suc i) l =
        let s : n' (suc q + i) ≡ n (suc q + i) = same (suc q + i) (omega arith) (omega arith) in
        rw (add-suc (suc q) i) (omega (arith, grown i (omega arith), s, step (suc q + i) (omega arith)))

    -- q itself, met at the end of the round, brings one more
    last : carry m n q + n q ≡ carry m n (suc q) + upto f.at (suc q)
    last = go (ℕ_discrete q f.at)
      where
        go : Dec (q ≡ f.at) → carry m n q + n q ≡ carry m n (suc q) + upto f.at (suc q)
        go (yes e) =
            let z : carry m n q + n q ≡ 0 = rw e f.free in
            omega (arith, carry_suc m n q, upto_out f.at (suc q) (omega arith))
        go (no ne) = omega (arith, f.from, carry_suc m n q, f.before q (omega arith) (omega (arith, f.from)), upto_in f.at (suc q) (omega (arith, f.from)))

    closes_at : (i : ℕ) → suc i ≡ m → walk (λ k. n' (suc q + k)) (carry m n (suc q) + upto f.at (suc q)) (suc i) ≡ carry m n (suc q) + upto f.at (suc q)
    unfolding walk
    closes_at i e =
        let x : suc q + i ≡ q + m = omega arith in
        let a : n' (suc q + i) ≡ suc (n q) = ap n' x ∙ r'.per q ∙ more in
        let b : carry m n (suc q + i) ≡ carry m n q = ap (carry m n) x ∙ carry_per m n r q in
        omega (arith, grown i (omega arith), a, b, last, upto_out f.at (suc q + i) (omega (arith, f.to)))

    closes : walk (λ k. n' (suc q + k)) (carry m n (suc q) + upto f.at (suc q)) m ≡ carry m n (suc q) + upto f.at (suc q)
    closes =
        let e : suc (m - 1) ≡ m = omega (arith, r.few) in
        rw e at (closes_at (m - 1) e)

    pub carry_grown : (x : ℕ) → q < x → x ≤ q + m → carry m n' x ≡ carry m n x + upto f.at x
    carry_grown x l h =
        let e : suc q + (x - suc q) ≡ x = omega arith in
        rw e at (at (x - suc q) (omega arith))
      where
        at : (i : ℕ) → i < m → carry m n' (suc q + i) ≡ carry m n (suc q + i) + upto f.at (suc q + i)
        at i l = carry_from m n' (suc q) i ∙ ap (λ c. walk (λ k. n' (suc q + k)) c i) (sym (carry_unique m n' r' (suc q) _ closes)) ∙ grown i l
