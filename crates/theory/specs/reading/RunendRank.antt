-- Runend bits and occupied bits counted: rank and select. `total E t` is how many runends stand below slot t, `total (occ n) x` how many quotients below x are occupied.
-- Assumes nothing.
use Rattle.std.specs.Prelude.{ℕ, zero, suc, ◌+◌, ◌-◌, ◌≤◌, ◌<◌, min, max, ◌≡◌, ◌⊎◌}
use Rattle.std.proofs.Common.{ap, inl, inr, arith, add-zero, add-suc, eq-zero-or-pos}
use Rattle.std.proofs.Math.Decide.{dec_le}
use Rattle.theory.specs.tools.Total.{total, total_suc, total_zero, total_le, total_mono}
use Rattle.theory.specs.Image.{carry, start, occ, last}
use Rattle.theory.specs.carry.Carry.{Free, carry_suc, start_suc, start_carry, free_start}
use Rattle.theory.specs.images.Filled.{Filled}

pub occ_none : (n : ℕ → ℕ) (x : ℕ) → n x ≡ 0 → occ n x ≡ 0
unfolding occ
occ_none n x e = omega arith

pub occ_some : (n : ℕ → ℕ) (x : ℕ) → 0 < n x → occ n x ≡ 1
unfolding occ
occ_some n x e = omega arith

pub occ_ap : (n : ℕ → ℕ) (x y : ℕ) → n x ≡ n y → occ n x ≡ occ n y
unfolding occ
occ_ap n x y e = ap (min 1) e

pub occ_both : (n n' : ℕ → ℕ) (x : ℕ) → n x ≡ n' x → occ n x ≡ occ n' x
unfolding occ
occ_both n n' x e = ap (min 1) e

pub occ_zero : (n : ℕ → ℕ) (x : ℕ) → occ n x ≡ 0 → n x ≡ 0
unfolding occ
occ_zero n x e = omega arith

pub last_inner : (n : ℕ → ℕ) (x j : ℕ) → suc j < n x → last n x j ≡ 0
unfolding last
last_inner n x j l = omega arith

pub last_end : (n : ℕ → ℕ) (x j : ℕ) → suc j ≡ n x → last n x j ≡ 1
unfolding last
last_end n x j l = omega arith

module _ (m : ℕ) (n : ℕ → ℕ) (E : ℕ → ℕ) (h : Filled m n (last n) E) where
  -- no runend inside a run
  rank_run : (x k : ℕ) → k < n x → total E (start m n x + k) ≡ total E (start m n x)
  rank_run x zero l = rw add-zero
  rank_run x (suc k) l =
      rw (add-suc (start m n x) k) (omega (arith, total_suc E (start m n x + k), rank_run x k (omega arith), h.used x k (omega arith), last_inner n x k l))

  -- the last slot of a run has one
  pub run_last : (x : ℕ) → 0 < n x → E (start m n x + (n x - 1)) ≡ 1
  run_last x p = omega (arith, h.used x (n x - 1) (omega arith), last_end n x (n x - 1) (omega arith))

  rank_suc : (x : ℕ) → total E (start m n (suc x)) ≡ total E (start m n x) + occ n x
  rank_suc x = go (eq-zero-or-pos (n x)) (dec_le (suc x) (start m n x))
    where
      go : (n x ≡ 0) ⊎ (0 < n x) → Dec (suc x ≤ start m n x) → total E (start m n (suc x)) ≡ total E (start m n x) + occ n x
      go (inr p) d =
          let e : start m n (suc x) ≡ suc (start m n x + (n x - 1)) = omega (arith, start_suc m n x, start_carry m n x) in
          rw e (omega (arith, total_suc E (start m n x + (n x - 1)), rank_run x (n x - 1) (omega arith), run_last x p, occ_some n x p))
      go (inl z) (yes l) =
          let e : start m n (suc x) ≡ start m n x = omega (arith, start_suc m n x) in
          rw e (omega (arith, occ_none n x z))
      go (inl z) (no l) =
          let e : start m n (suc x) ≡ suc x = omega (arith, start_suc m n x) in
          let e' : start m n x ≡ x = omega (arith, start_carry m n x) in
          rw (e, e') (omega (arith, total_suc E x, occ_none n x z, h.free x (omega (arith, start_carry m n x))))

  -- as many runends below the start of x as there are occupied quotients below x, but for those that end runs begun before quotient 0
  pub rank_start : (x : ℕ) → total E (start m n x) ≡ total E (start m n 0) + total (occ n) x
  rank_start zero = omega (arith, total_zero (occ n))
  rank_start (suc x) = omega (arith, rank_start x, rank_suc x, total_suc (occ n) x)

  -- the run of a quotient that is followed by none occupied: run_end of x is start (suc x) - 1
  pub start_skip : (y k : ℕ) → total (occ n) (y + k) ≡ total (occ n) y → start m n (y + k) ≡ max (y + k) (start m n y)
  start_skip y zero e = rw add-zero (omega (arith, start_carry m n y))
  start_skip y (suc k) e =
      let e' : total (occ n) (suc (y + k)) ≡ total (occ n) y = rw (add-suc y k) at e in
      let a : total (occ n) (y + k) ≡ total (occ n) y = omega (arith, total_suc (occ n) (y + k), total_mono (occ n) y k) in
      let z : n (y + k) ≡ 0 = occ_zero n (y + k) (omega (arith, total_suc (occ n) (y + k))) in
      rw (add-suc y k) (omega (arith, start_suc m n (y + k), start_skip y k a))

  -- the slot before a start that is shifted ends a run
  pub before_start : (z k : ℕ) → Free m n z → 0 < carry m n (z + k) → E (start m n (z + k) - 1) ≡ 1
  before_start z zero f p = absurd (omega (arith, ap (carry m n) (add-zero z)))
  before_start z (suc k) f p =
      let p' : 0 < carry m n (suc (z + k)) = rw (add-suc z k) at p in
      rw (add-suc z k) (go (λ l. before_start z k f l) p' (eq-zero-or-pos (n (z + k))))
    where
      go : (0 < carry m n (z + k) → E (start m n (z + k) - 1) ≡ 1) → 0 < carry m n (suc (z + k)) → (n (z + k) ≡ 0) ⊎ (0 < n (z + k)) → E (start m n (suc (z + k)) - 1) ≡ 1
      go ih l (inl e) =
          let s : start m n (suc (z + k)) ≡ start m n (z + k) = omega (arith, carry_suc m n (z + k), start_carry m n (suc (z + k)), start_carry m n (z + k)) in
          rw s (ih (omega (arith, carry_suc m n (z + k))))
      go ih l (inr h') =
          let s : start m n (suc (z + k)) - 1 ≡ start m n (z + k) + (n (z + k) - 1) = omega (arith, carry_suc m n (z + k), start_carry m n (suc (z + k)), start_carry m n (z + k)) in
          rw s (run_last (z + k) h')

  -- runends never outrun the occupied quotients, and they are level exactly where nothing is carried
  pub level_le : (z k : ℕ) → Free m n z → total E (z + k) + total (occ n) z ≤ total E z + total (occ n) (z + k)
  level_le z k f =
      let s : total E (start m n z) ≡ total E z = ap (total E) (free_start m n z f) in
      omega (arith, rank_start z, rank_start (z + k), total_le E (z + k) (start m n (z + k)) (omega (arith, start_carry m n (z + k))))

  pub level_carry : (z k : ℕ) → Free m n z → total E (z + k) + total (occ n) z ≡ total E z + total (occ n) (z + k) → carry m n (z + k) ≡ 0
  level_carry z k f e = go (eq-zero-or-pos (carry m n (z + k)))
    where
      go : (carry m n (z + k) ≡ 0) ⊎ (0 < carry m n (z + k)) → carry m n (z + k) ≡ 0
      go (inl c) = c
      go (inr p) =
          let s : total E (start m n z) ≡ total E z = ap (total E) (free_start m n z f) in
          let t : suc (start m n (z + k) - 1) ≡ start m n (z + k) = omega (arith, start_carry m n (z + k)) in
          let u : total E (suc (start m n (z + k) - 1)) ≡ total E (start m n (z + k)) = ap (total E) t in
          absurd (omega (arith, rank_start z, rank_start (z + k), before_start z k f p, total_suc E (start m n (z + k) - 1), total_le E (z + k) (start m n (z + k) - 1) (omega (arith, start_carry m n (z + k)))))

  pub carry_level : (z k : ℕ) → Free m n z → carry m n (z + k) ≡ 0 → total E (z + k) + total (occ n) z ≡ total E z + total (occ n) (z + k)
  carry_level z k f e =
      let s : total E (start m n z) ≡ total E z = ap (total E) (free_start m n z f) in
      let t : start m n (z + k) ≡ z + k = omega (arith, start_carry m n (z + k)) in
      omega (arith, rank_start z, rank_start (z + k), ap (total E) t)
