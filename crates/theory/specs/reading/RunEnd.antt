-- What a lookup counts: the end of a run by rank and select from a block's first quotient B; whether a slot is free; how far the next free slot is; the runs pending before quotient 0.
-- `total E t - total E s` is the number of runend bits in the slots from s to before t, `total (occ n) y - total (occ n) x` that of the occupied quotients from x to before y.
-- Assumes nothing.
use Rattle.std.specs.Prelude.{ℕ, suc, ◌+◌, ◌-◌, ◌≤◌, ◌<◌, max, ◌≡◌, ◌⊎◌}
use Rattle.std.proofs.Common.{sym, ap, ◌∙◌, inl, inr, arith, eq-zero-or-pos}
use Rattle.std.proofs.Math.Decide.{dec_le, dec_lt}
use Rattle.theory.specs.tools.Total.{total, total_suc, total_le}
use Rattle.theory.specs.Image.{carry, start, occ, last}
use Rattle.theory.specs.carry.Carry.{Round, Free, FirstFree, first_free, start_carry, free_start, start_per, carry_per}
use Rattle.theory.specs.images.Filled.{Filled}
use Rattle.theory.specs.reading.RunendRank.{occ_zero, rank_start, start_skip, before_start}

module _ (m : ℕ) (n : ℕ → ℕ) (E : ℕ → ℕ) (r : Round m n) (per : (t : ℕ) → E (t + m) ≡ E t) (h : Filled m n (last n) E) where
  -- where a run is shifted, the slot before it ends a run
  pub shifted_end : (x : ℕ) → 0 < carry m n x → E (start m n x - 1) ≡ 1
  shifted_end x p =
      let e : z.at + (x + m - z.at) ≡ x + m = omega (arith, z.to) in
      let one : E (start m n (x + m) - 1) ≡ 1 = rw e at (before_start m n E h z.at (x + m - z.at) z.free (rw e (omega (arith, carry_per m n r x)))) in
      let s : start m n (x + m) - 1 ≡ start m n x - 1 + m = omega (arith, start_per m n r x, start_carry m n x) in
      sym (per (start m n x - 1)) ∙ ap E (sym s) ∙ one
    where
      z : FirstFree m n 0
      z = first_free m n r 0

  -- no quotient from B to x is occupied: the run of x, which is empty, would end before the later of x + 1 and the start of B
  pub run_end_none : (B x : ℕ) → B ≤ x → total (occ n) (suc x) ≡ total (occ n) B → start m n (suc x) ≡ max (suc x) (start m n B)
  run_end_none B x l e =
      let s : B + (suc x - B) ≡ suc x = omega arith in
      rw s at (start_skip m n E h B (suc x - B) (rw s e))

  -- else select: p is the runend, counted from the start of B, of the last of the quotients from B to x that are occupied
  pub run_end_some : (B x p : ℕ) → 0 < E p → suc (total E p) + total (occ n) B ≤ total E (start m n B) + total (occ n) (suc x)
      → total E (start m n B) + total (occ n) (suc x) ≤ total E p + E p + total (occ n) B → start m n (suc x) ≡ max (suc x) (suc p)
  run_end_some B x p one a b = go (eq-zero-or-pos (carry m n (suc x)))
    where
      same : total E (suc p) ≡ total E p + E p
      same = total_suc E p

      -- p stands before the start of x + 1
      low : suc p ≤ start m n (suc x)
      low = by (dec_le (suc p) (start m n (suc x)))
        where
          by : Dec (suc p ≤ start m n (suc x)) → suc p ≤ start m n (suc x)
          by (yes l) = l
          by (no l) = absurd (omega (arith, rank_start m n E h B, rank_start m n E h (suc x), total_le E (start m n (suc x)) p (omega arith)))

      go : (carry m n (suc x) ≡ 0) ⊎ (0 < carry m n (suc x)) → start m n (suc x) ≡ max (suc x) (suc p)
      go (inl c) = omega (arith, start_carry m n (suc x), low)
      go (inr c) = by (dec_lt (suc p) (start m n (suc x)))
        where
          t : total E (suc (start m n (suc x) - 1)) ≡ total E (start m n (suc x))
          t = ap (total E) (omega (arith, start_carry m n (suc x)))

          by : Dec (suc p < start m n (suc x)) → start m n (suc x) ≡ max (suc x) (suc p)
          by (no l) = omega (arith, low, start_carry m n (suc x))
          by (yes l) =
              absurd (omega (arith, rank_start m n E h B, rank_start m n E h (suc x), shifted_end (suc x) c, total_suc E (start m n (suc x) - 1), t, total_le E (suc p) (start m n (suc x) - 1) (omega arith), same))

  pub count_free : (B x : ℕ) → total E (start m n B) + total (occ n) (suc x) ≤ total E x + total (occ n) B → Free m n x
  count_free B x e = go (eq-zero-or-pos (carry m n x))
    where
      below : total E x ≤ total E (start m n x)
      below = total_le E x (start m n x) (omega (arith, start_carry m n x))

      none : occ n x ≡ 0
      none = omega (arith, below, rank_start m n E h B, rank_start m n E h x, total_suc (occ n) x)

      go : (carry m n x ≡ 0) ⊎ (0 < carry m n x) → Free m n x
      go (inl c) = omega (arith, occ_zero n x none)
      go (inr c) =
          let t : total E (suc (start m n x - 1)) ≡ total E (start m n x) = ap (total E) (omega (arith, start_carry m n x)) in
          absurd (omega (arith, rank_start m n E h B, rank_start m n E h x, shifted_end x c, total_suc (occ n) x, total_suc E (start m n x - 1), total_le E x (start m n x - 1) (omega (arith, start_carry m n x))))

  -- the runs pending before quotient 0: as many as runends run ahead of occupied quotients, at the most, in a round
  pub pending : (t : ℕ) → total E t ≤ total E (start m n 0) + total (occ n) t
  pending t = omega (arith, rank_start m n E h t, total_le E t (start m n t) (omega (arith, start_carry m n t)))

  pub pending_met : (t : ℕ) → Free m n t → total E t ≡ total E (start m n 0) + total (occ n) t
  pending_met t f = sym (ap (total E) (free_start m n t f)) ∙ rank_start m n E h t
