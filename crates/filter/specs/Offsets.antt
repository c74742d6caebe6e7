-- From the offset bytes to the carry before each block, the slot behind each run and the first free slot: what the walks over blocks know.
use Rattle.std.specs.Prelude.{Option, Some, None, ℕ, suc, ◌+◌, ◌-◌, ◌*◌, ◌/◌, ◌%◌, ◌≤◌, ◌<◌, ◌≡◌}
use Rattle.std.proofs.Common.{ap, ◌∙◌, arith, mod-lt, mod-eq_of_lt}
use Rattle.std.proofs.Math.Nat.{mod-add-mod, add-mod_right}
use Rattle.theory.specs.Image.{Views, carry, start}
use Rattle.std.proofs.Math.Decide.{ℕ_discrete}
use Rattle.theory.specs.carry.Carry.{Round, start_carry, start_per}
use Rattle.theory.specs.reading.BehindRun.{Runs}
use Rattle.theory.specs.reading.Offsets.{Offsets, carry_lt, carry_here, carry_behind}
use Rattle.theory.specs.reading.FreeSlot.{Used, gap_is, free_here, used_on, free_at, used_round}
use Rattle.theory.specs.reading.Walks.{Tells, OffsetOf, RunStart, RunEnd}
use Rattle.filter.specs.Runs.{Behind, NextCarry, PastRun, FreeFrom}

-- the carry before the next block, from the slot behind the last run of this one
module _ (m B : ℕ) (v : Views) (whole : m ≡ 64 * B) (b o : ℕ) where
  -- what the walk to the last slot of block b found
  behind : (f : Option ℕ) → Behind m v (64 * b + 63) o f → (n : ℕ → ℕ) → Runs m n v → o ≡ carry m n (64 * b) → f ≡ Some (start m n (suc (64 * b + 63)))
  behind f d n w e =
      let g : (64 * b + 63) / 64 ≡ b = omega arith in
      d.right n w (rw g e)

  pub next_missed : Behind m v (64 * b + 63) o None → NextCarry m v b o None
  next_missed d = record { right = λ n w e. absurd (cc (behind None d n w e)); bound = tt }

  module _ (s : ℕ) (d : Behind m v (64 * b + 63) o (Some s)) where
    is : (n : ℕ → ℕ) → Runs m n v → o ≡ carry m n (64 * b) → s - (64 * b + 64) ≡ carry m n (64 * b + 64)
    is n w e =
        let g : suc (64 * b + 63) ≡ 64 * b + 64 = omega arith in
        let f : s ≡ start m n (suc (64 * b + 63)) = cc (behind (Some s) d n w e) in
        omega (arith, f, ap (start m n) g, start_carry m n (64 * b + 64))

    pub next_found : s - (64 * b + 64) ≤ m → NextCarry m v b o (Some (s - (64 * b + 64)))
    next_found l = record { right = λ n w e. ap Some (is n w e); bound = (omega arith, l) }

    -- less than a round is carried
    pub next_large : m < s - (64 * b + 64) → NextCarry m v b o None
    next_large l = record { right = λ n w e. absurd (omega (arith, is n w e, carry_lt m B whole n w.round (64 * b + 64))); bound = tt }

module _ (m B : ℕ) (v : Views) (whole : m ≡ 64 * B) (pos : 0 < B) where
  -- what the step to the next block tells
  stepped : (j o : ℕ) (a : Option ℕ) → Tells m v j o → NextCarry m v (j % B) o a → (n : ℕ → ℕ) → Runs m n v → Offsets m n v → a ≡ Some (carry m n (64 * (j + 1)))
  stepped j o a t d n w f = d.right n w (t n w f ∙ carry_here m B whole n w.round j) ∙ ap Some (carry_behind m B whole n w.round j)

  pub tells_next : (j o next : ℕ) → Tells m v j o → NextCarry m v (j % B) o (Some next) → Tells m v (j + 1) next
  tells_next j o next t d n w f = cc (stepped j o (Some next) t d n w f)

  pub tells_missed : (j o b : ℕ) → Tells m v j o → NextCarry m v (j % B) o None → OffsetOf m v b 0
  tells_missed j o b t d = record { right = λ n w f. absurd (cc (stepped j o None t d n w f)); bound = omega arith }

module _ (m : ℕ) (v : Views) (s o : ℕ) (t : OffsetOf m v (s % m / 64) o) where
  pub past_found : (p : ℕ) → Behind m v (s % m) o (Some p) → PastRun m v s (Some (p - s % m))
  past_found p d = record {
    right = λ n w f. ap Some (gap_is m n v w s p (cc (d.right n w (t.right n w f))));
    bound = (omega (arith, d.bound), omega (arith, d.bound, t.bound));
  }

  pub past_missed : Behind m v (s % m) o None → PastRun m v s None
  past_missed d = record { right = λ n w f. absurd (cc (d.right n w (t.right n w f))); bound = tt }

module _ (m : ℕ) (v : Views) (x : ℕ) where
  -- where there are counts, the walk finds the slot behind the run
  pub missed : PastRun m v x None → (n : ℕ → ℕ) → Runs m n v → Offsets m n v → ⊥
  missed d n w f = cc (d.right n w f)

  pub end_found : (gap : ℕ) → 0 < m → PastRun m v x (Some gap) → RunEnd m v x ((x + gap - 1) % m)
  end_found gap p d = record {
    right = λ n w f.
        let e : gap ≡ start m n (suc x) - x = cc (d.right n w f) in
        ap (λ z. z % m) (omega (arith, start_carry m n (suc x)));
    bound = mod-lt (x + gap - 1) p;
  }

  pub end_missed : x < m → PastRun m v x None → RunEnd m v x x
  end_missed l d = record { right = λ n w f. absurd (missed d n w f); bound = l }

  pub start_behind : (s : ℕ) → x < m → RunEnd m v ((x + m - 1) % m) s → RunStart m v x ((s + 1) % m)
  start_behind s l d = record { right = λ n w f. behind n w f ∙ turn n w.round (ℕ_discrete x 0); bound = mod-lt (s + 1) (omega arith) }
    where
      behind : (n : ℕ → ℕ) → Runs m n v → Offsets m n v → (s + 1) % m ≡ start m n (suc ((x + m - 1) % m)) % m
      behind n w f =
          let y = (x + m - 1) % m in
          let e : start m n (suc y) - 1 + 1 ≡ start m n (suc y) = omega (arith, start_carry m n (suc y)) in
          ap (λ z. (z + 1) % m) (d.right n w f) ∙ mod-add-mod (start m n (suc y) - 1) m 1 ∙ ap (λ z. z % m) e

      turn : (n : ℕ → ℕ) → Round m n → Dec (x ≡ 0) → start m n (suc ((x + m - 1) % m)) % m ≡ start m n x % m
      turn n r (yes e) =
          let a : x + m - 1 < m = omega arith in
          let b : suc (x + m - 1) ≡ x + m = omega arith in
          rw (mod-eq_of_lt a, b, start_per m n r x) (add-mod_right (start m n x) m)
      turn n r (no e) =
          let a : x + m - 1 ≡ x - 1 + m = omega arith in
          let h : x - 1 < m = omega arith in
          let b : suc (x - 1) ≡ x = omega arith in
          rw (a, add-mod_right (x - 1) m, mod-eq_of_lt h, b)

-- the walk to the first free slot: all slots from x to before s are used
abbrev pub Walked : ℕ → Views → ℕ → ℕ → Type 0
Walked m v x s = (n : ℕ → ℕ) → Runs m n v → Offsets m n v → Used m n x s

module _ (m : ℕ) (v : Views) (x s : ℕ) (h : Walked m v x s) where
  pub walked_free : (gap e : ℕ) → x ≤ s → s < x + m → PastRun m v s (Some gap) → e ≡ v.runend (s % m) → gap + e ≡ 1 → FreeFrom m v x (Some s)
  walked_free gap e a b d ee one = record {
    right = λ n w f z. ap Some (free_at m n x s z a (free_here m n v w s gap (cc (d.right n w f)) (omega (arith, d.bound)) (omega (arith, d.bound))) (h n w f));
    bound = (omega arith, omega arith);
  }

  pub walked_on : (gap e : ℕ) → PastRun m v s (Some gap) → e ≡ v.runend (s % m) → (gap + e ≡ 1 → ⊥) → Walked m v x (s + gap)
  walked_on gap e d ee busy n w f = used_on m n v w x s gap (cc (d.right n w f)) (λ one z. busy (omega (arith, ee))) (h n w f)

  pub walked_missed : PastRun m v s None → FreeFrom m v x None
  walked_missed d = record { right = λ n w f z. absurd (missed m v s d n w f); bound = tt }

pub walked_none : (m : ℕ) (v : Views) (x : ℕ) → Walked m v x x
walked_none m v x n w f y a b = absurd (omega arith)

pub walked_round : (m : ℕ) (v : Views) (x s : ℕ) → Walked m v x s → x + m ≤ s → FreeFrom m v x None
walked_round m v x s h l = record { right = λ n w f z. absurd (used_round m n x s z l (h n w f)); bound = tt }
