-- The occupied bits and the runend bits tell how many fingerprints have each quotient.
-- Assumes nothing.
use Rattle.std.specs.Prelude.{ℕ, zero, suc, ◌+◌, ◌-◌, ◌≤◌, ◌<◌, ◌≡◌, ◌⊎◌}
use Rattle.std.proofs.Common.{sym, ap, ◌∙◌, inl, inr, arith, add-zero, add-suc, eq-zero-or-pos}
use Rattle.std.proofs.Math.Path.{fun_ext}
use Rattle.std.proofs.Math.Decide.{dec_lt}
use Rattle.theory.specs.tools.Total.{total, total_same}
use Rattle.theory.specs.Image.{carry, start, occ, last}
use Rattle.theory.specs.carry.Carry.{Round, Free, FirstFree, start_suc, free_start, carry_per, first_free, per_all}
use Rattle.theory.specs.images.Filled.{Filled}
use Rattle.theory.specs.reading.RunendRank.{occ_none, occ_some, last_inner, run_last, level_le, level_carry, carry_level}

-- runs that start in one slot, the first no longer than the second: they would end in one slot
not_shorter : (m : ℕ) (n n' E : ℕ → ℕ) → Filled m n (last n) E → Filled m n' (last n') E → (x : ℕ) → start m n x ≡ start m n' x → 0 < n x → n x < n' x → ⊥
not_shorter m n n' E h h' x s p l =
    let t : start m n x + (n x - 1) ≡ start m n' x + (n x - 1) = omega arith in
    omega (arith, run_last m n E h x p, ap E t, h'.used x (n x - 1) (omega arith), last_inner n' x (n x - 1) (omega arith))

module _ (m : ℕ) (n n' E : ℕ → ℕ) (r : Round m n) (r' : Round m n') (h : Filled m n (last n) E) (h' : Filled m n' (last n') E) (o : (x : ℕ) → occ n x ≡ occ n' x) where
  -- a slot that is free in the one is free in the other
  pub common_free : (z : ℕ) → Free m n z → Free m n' z
  common_free z f = omega (arith, carry', none (eq-zero-or-pos (n' z)))
    where
      g : FirstFree m n' z
      g = first_free m n' r' z

      same : (x : ℕ) → total (occ n) x ≡ total (occ n') x
      same x = total_same (occ n) (occ n') x (λ i l. o i)

      d : z + (g.at - z) ≡ g.at
      d = omega (arith, g.from)

      e : g.at + (z + m - g.at) ≡ z + m
      e = omega (arith, g.to)

      one : total E g.at + total (occ n) z ≤ total E z + total (occ n) g.at
      one = rw d at (level_le m n E h z (g.at - z) f)

      two : total E (z + m) + total (occ n') g.at ≤ total E g.at + total (occ n') (z + m)
      two = rw e at (level_le m n' E h' g.at (z + m - g.at) g.free)

      three : total E (z + m) + total (occ n) z ≡ total E z + total (occ n) (z + m)
      three = carry_level m n E h z m f (omega (arith, carry_per m n r z))

      level : total E (z + m) + total (occ n') g.at ≡ total E g.at + total (occ n') (z + m)
      level = omega (arith, one, two, three, same z, same (z + m), same g.at)

      carry' : carry m n' z ≡ 0
      carry' =
          let c : carry m n' (z + m) ≡ 0 = rw e at (level_carry m n' E h' g.at (z + m - g.at) g.free (rw e level)) in
          omega (arith, carry_per m n' r' z)

      none : (n' z ≡ 0) ⊎ (0 < n' z) → n' z ≡ 0
      none (inl y) = y
      none (inr p) = absurd (omega (arith, o z, occ_none n z (omega arith), occ_some n' z p))

  same_run : (x : ℕ) → start m n x ≡ start m n' x → n x ≡ n' x
  same_run x s = go (eq-zero-or-pos (n x)) (eq-zero-or-pos (n' x)) (dec_lt (n x) (n' x)) (dec_lt (n' x) (n x))
    where
      go : (n x ≡ 0) ⊎ (0 < n x) → (n' x ≡ 0) ⊎ (0 < n' x) → Dec (n x < n' x) → Dec (n' x < n x) → n x ≡ n' x
      go (inl a) (inl b) u v = omega arith
      go (inl a) (inr b) u v = absurd (omega (arith, o x, occ_none n x a, occ_some n' x b))
      go (inr a) (inl b) u v = absurd (omega (arith, o x, occ_some n x a, occ_none n' x b))
      go (inr a) (inr b) (yes l) v = absurd (not_shorter m n n' E h h' x s a l)
      go (inr a) (inr b) (no l) (yes l') = absurd (not_shorter m n' n E h' h x (sym s) b l')
      go (inr a) (inr b) (no l) (no l') = omega arith

  same_start : (z k : ℕ) → Free m n z → start m n (z + k) ≡ start m n' (z + k)
  same_start z zero f = rw add-zero (free_start m n z f ∙ sym (free_start m n' z (common_free z f)))
  same_start z (suc k) f =
      let s : start m n (z + k) ≡ start m n' (z + k) = same_start z k f in
      rw (add-suc z k) (omega (arith, start_suc m n (z + k), start_suc m n' (z + k), same_run (z + k) s))

  pub counts_same : n ≡ n'
  counts_same = fun_ext (per_all m (λ x. n x ≡ n' x) (λ x e. r.per x ∙ e ∙ sym (r'.per x)) (λ x e. sym (r.per x) ∙ e ∙ r'.per x) (omega (arith, r.few)) z.at at)
    where
      z : FirstFree m n 0
      z = first_free m n r 0

      at : (x : ℕ) → z.at ≤ x → x < z.at + m → n x ≡ n' x
      at x a b =
          let e : z.at + (x - z.at) ≡ x = omega arith in
          same_run x (rw e at (same_start z.at (x - z.at) z.free))
