-- The first free slot from a quotient on, found by jumps to the slot behind each run. Assumes nothing.
use Rattle.std.specs.Prelude.{ℕ, suc, ◌+◌, ◌-◌, ◌*◌, ◌/◌, ◌%◌, ◌≤◌, ◌<◌, ◌≡◌, ◌⊎◌, ◌≢◌}
use Rattle.std.proofs.Common.{ap, ◌∙◌, inl, inr, arith, eq-zero-or-pos, div-add-mod'}
use Rattle.std.proofs.Math.Decide.{dec_lt, ℕ_discrete}
use Rattle.std.proofs.Math.Nat.{add-mod_right}
use Rattle.theory.specs.Image.{start, Views, carry}
use Rattle.theory.specs.carry.Carry.{carry_per, FirstFree, start_le, start_carry, start_suc, Free, before_free}
use Rattle.theory.specs.reading.BehindRun.{Runs}
use Rattle.theory.specs.images.LaidOut.{per_mod}
use Rattle.theory.specs.reading.RunendRank.{run_last}
use Rattle.theory.specs.reading.RunEnd.{shifted_end}

-- all slots from x to before s are used
abbrev pub Used : ℕ → (ℕ → ℕ) → ℕ → ℕ → Type 0
Used m n x s = (y : ℕ) → x ≤ y → y < s → 0 < carry m n y + n y

module _ (m : ℕ) (n : ℕ → ℕ) (v : Views) (w : Runs m n v) where
  abbrev E : ℕ → ℕ
  E t = v.runend (t % m)

  per : (t : ℕ) → E (t + m) ≡ E t
  per t = ap v.runend (add-mod_right t m)

  -- how far the slot behind the run of s is from s, told at the slot modulo m
  pub gap_is : (s t : ℕ) → t ≡ start m n (suc (s % m)) → t - s % m ≡ start m n (suc s) - s
  gap_is s t e =
      let a : suc s ≡ suc (s % m) + s / m * m = omega (arith, div-add-mod' s m) in
      let c : carry m n (suc s) ≡ carry m n (suc (s % m)) = ap (carry m n) a ∙ per_mod m (carry m n) (carry_per m n w.round) (s / m) (suc (s % m)) in
      omega (arith, start_carry m n (suc s), start_carry m n (suc (s % m)))

  -- a slot with nothing behind it is free if it ends no run
  pub free_here : (s g : ℕ) → g ≡ start m n (suc s) - s → g ≡ 1 → E s ≡ 0 → Free m n s
  free_here s g e one none = go (eq-zero-or-pos (n s)) (eq-zero-or-pos (carry m n s))
    where
      few : carry m n s + n s ≤ 1
      few = omega (arith, start_suc m n s, start_carry m n s)

      go : (n s ≡ 0) ⊎ (0 < n s) → (carry m n s ≡ 0) ⊎ (0 < carry m n s) → Free m n s
      go (inl a) (inl b) = omega arith
      go (inl a) (inr b) =
          let z : start m n s - 1 ≡ s = omega (arith, start_carry m n s, few) in
          absurd (omega (arith, shifted_end m n E w.round per w.runends s b, ap E z))
      go (inr a) c =
          let z : start m n s + (n s - 1) ≡ s = omega (arith, start_carry m n s, few) in
          absurd (omega (arith, run_last m n E w.runends s a, ap E z))

  -- else all slots up to the one behind its run are used
  pub used_on : (x s g : ℕ) → g ≡ start m n (suc s) - s → (g ≡ 1 → E s ≢ 0) → Used m n x s → Used m n x (s + g)
  used_on x s g e busy h y a b = go (dec_lt y s) (ℕ_discrete y s)
    where
      here : 0 < carry m n s + n s
      here = by (eq-zero-or-pos (carry m n s + n s))
        where
          by : (carry m n s + n s ≡ 0) ⊎ (0 < carry m n s + n s) → 0 < carry m n s + n s
          by (inr p) = p
          by (inl z) = absurd (busy (omega (arith, start_suc m n s, start_carry m n s)) (w.runends.free s z))

      go : Dec (y < s) → Dec (y ≡ s) → 0 < carry m n y + n y
      go (yes p) d = h y a p
      go (no p) (yes q) = rw q here
      go (no p) (no q) = omega (arith, start_carry m n y, start_le m n (suc s) y (omega arith), start_carry m n (suc s))

-- the first free slot is the only one
pub free_at : (m : ℕ) (n : ℕ → ℕ) (x s : ℕ) (z : FirstFree m n x) → x ≤ s → Free m n s → Used m n x s → s ≡ z.at
free_at m n x s z a f h = go (dec_lt s z.at) (dec_lt z.at s)
  where
    go : Dec (s < z.at) → Dec (z.at < s) → s ≡ z.at
    go (yes p) d = absurd (omega (arith, z.before s a p))
    go (no p) (yes q) = absurd (omega (arith, h z.at z.from q, z.free))
    go (no p) (no q) = omega arith

-- and it is less than a round on
pub used_round : (m : ℕ) (n : ℕ → ℕ) (x s : ℕ) (z : FirstFree m n x) → x + m ≤ s → Used m n x s → ⊥
used_round m n x s z a h = omega (arith, h z.at z.from (omega (arith, z.to)), z.free)

-- the run of x ends at the first free slot or before
pub run_before : (m : ℕ) (n : ℕ → ℕ) (x : ℕ) (z : FirstFree m n x) → start m n x + n x ≤ z.at
run_before m n x z = go (ℕ_discrete x z.at)
  where
    go : Dec (x ≡ z.at) → start m n x + n x ≤ z.at
    go (yes e) =
        let f : Free m n x = rw e z.free in
        omega (arith, start_carry m n x)
    go (no e) = before_free m n x z.at (omega (arith, z.from)) z.free
