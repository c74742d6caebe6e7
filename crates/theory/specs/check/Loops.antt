-- The loops of the check as code has them: what holds after i slots of a block, or k blocks of a budget. Assumes nothing.
use Prim.Native.Nat.{ℕ, zero, suc, ◌+◌, ◌-◌, ◌^◌, ◌≤◌, ◌<◌, min}
use Rattle.std.specs.Prelude.{◌≡◌}
use Rattle.std.proofs.Math.Path.{refl, ap}
use Rattle.std.proofs.Common.{sym, ◌∙◌}
use native.Mathlib.Omega.{arith}
use Rattle.std.proofs.Math.Decide.{dec_le}
use Rattle.theory.specs.tools.Choose.{choose_no, choose_yes, choose}
use Rattle.theory.specs.tools.Total.{total}
use Rattle.theory.specs.Image.{Views}
use Rattle.theory.specs.check.Queue.{pend, busy, owed, dist}
use Rattle.theory.specs.check.Step.{block_fault, step, second_round, first_round, fault, Cursor, faults, steps, cursor_ext, steps_add, Sight, uses, step_end}

-- ---- how far the queue's last runend is, slot by slot: d slots passed, `left` runends still to meet
pub record Far (E : ℕ → ℕ) (p d left : ℕ) : Type 0 where
  pub within : d ≤ 255
  pub rest : dist E 255 p 0 ≡ d + dist E (255 - d) left d

dist_none : (E : ℕ → ℕ) (k p t : ℕ) → k ≡ 0 → dist E k p t ≡ 0
unfolding dist
dist_none E zero p t e = refl
dist_none E (suc k) p t e = absurd (omega arith)

dist_stop : (E : ℕ → ℕ) (k p t : ℕ) → p ≡ 0 → dist E k p t ≡ 0
unfolding dist
dist_stop E zero p t e = refl
dist_stop E (suc k) p t e = choose_no (dec_le 1 p) _ _ (λ h. omega arith)

dist_on : (E : ℕ → ℕ) (k p t e : ℕ) → 0 < k → 0 < p → e ≡ E t → dist E k p t ≡ suc (dist E (k - 1) (p - e) (t + 1))
unfolding dist
dist_on E zero p t e l h r = absurd (omega arith)
dist_on E (suc k) p t e l h r =
    let a : k ≡ suc k - 1 = omega arith in
    let b : suc t ≡ t + 1 = omega arith in
    choose_yes (dec_le 1 p) _ _ h ∙ rw (← a, ← b, r)

pub far_begin : (E : ℕ → ℕ) (p : ℕ) → Far E p 0 p
far_begin E p = record { within = omega arith; rest = omega arith }

pub far_step : (E : ℕ → ℕ) (p d left e : ℕ) → d < 255 → 0 < left → e ≡ E d → Far E p d left → Far E p (d + 1) (left - e)
far_step E p d left e l h r f =
    let a : 255 - d - 1 ≡ 255 - (d + 1) = omega arith in
    record { within = omega arith; rest = omega (arith, f.rest, rw a at (dist_on E (255 - d) left d e (omega arith) h r)) }

pub far_met : (E : ℕ → ℕ) (p d left : ℕ) → left ≡ 0 → Far E p d left → d ≡ dist E 255 p 0
far_met E p d left z f = omega (arith, f.rest, dist_stop E (255 - d) left d z)

pub far_end : (E : ℕ → ℕ) (p d left : ℕ) → 255 ≤ d → Far E p d left → d ≡ dist E 255 p 0
far_end E p d left z f = omega (arith, f.rest, dist_none E (255 - d) left d (omega arith))

-- ---- a block of the first round
pub record FirstLoop (O E : ℕ → ℕ) (p w i pending owes : ℕ) : Type 0 where
  pub within : i ≤ 64
  pub pending_is : pending ≡ pend O E p i
  pub owed_is : owes ≡ w + owed O E p i
  pub pending_le : pending ≤ p + i
  pub owed_le : owes ≤ w + i

pub first_begin : (O E : ℕ → ℕ) (p w : ℕ) → FirstLoop O E p w 0 p w
unfolding pend owed
first_begin O E p w = record { within = omega arith; pending_is = refl; owed_is = omega arith; pending_le = omega arith; owed_le = omega arith }

pub first_next : (O E : ℕ → ℕ) (p w i pending owes o e d d' : ℕ) → i < 64 → o ≡ O i → o < 2 → e ≡ E i → e < 2 → d ≡ e - (pending + o) → d' ≡ pending + o - e
    → FirstLoop O E p w i pending owes → FirstLoop O E p w (i + 1) d' (owes + d)
unfolding pend owed
first_next O E p w i pending owes o e d d' l ro lo re le h h' f =
    let n : i + 1 ≡ suc i = omega arith in
    record { within = omega arith; pending_is = rw n at_pend; owed_is = rw n at_owed; pending_le = omega (arith, f.pending_le); owed_le = omega (arith, f.owed_le) }
  where
    at_pend : d' ≡ pend O E p (suc i)
    at_pend = omega (arith, f.pending_is)

    at_owed : owes + d ≡ w + owed O E p (suc i)
    at_owed = omega (arith, f.pending_is, f.owed_is)

pub first_done : (O E : ℕ → ℕ) (c : Cursor) (i pending owes : ℕ) → 64 ≤ i → FirstLoop O E c.pending c.owed i pending owes
    → record { passed = c.passed + 1; owed = owes; pending = pending; used = c.used; bad = c.bad } ≡ first_round O E c
unfolding first_round
first_done O E c i pending owes l f =
    let e : i ≡ 64 = omega (arith, f.within) in
    cursor_ext _ _ _ _ _ _ _ _ _ _ (omega arith) (rw e at f.owed_is) (rw e at f.pending_is) refl refl

-- ---- a block of the second round; `was` is what the tests of the block failed before its slots, and `here` the remainder of slot i
pub record SecondLoop (s : Sight) (p u was i pending used bad here : ℕ) : Type 0 where
  pub within : i ≤ 64
  pub pending_is : pending ≡ pend s.occupied s.runend p i
  pub used_is : used ≡ u + uses s p i
  pub bad_is : bad ≡ min 1 (was + faults s p i)
  pub here_is : here ≡ s.remainder i
  pub pending_le : pending ≤ p + i
  pub used_le : used ≤ u + i

pub second_begin : (s : Sight) (p u was bad here : ℕ) → bad ≡ min 1 was → here ≡ s.remainder 0 → SecondLoop s p u was 0 p u bad here
unfolding pend uses faults total
second_begin s p u was bad here e r =
    record { within = omega arith; pending_is = refl; used_is = omega arith; bad_is = omega arith; here_is = r; pending_le = omega arith; used_le = omega arith }

pub second_next : (s : Sight) (p u was i pending used bad here o e n f y k d : ℕ) → i < 64
    → o ≡ s.occupied i → o < 2 → e ≡ s.runend i → n ≡ s.remainder (i + 1)
    → f ≡ min 1 (fault pending o e here n) → y ≡ min 1 (bad + f) → k ≡ min 1 (pending + o) → d ≡ pending + o - e
    → SecondLoop s p u was i pending used bad here → SecondLoop s p u was (i + 1) d (used + k) y n
unfolding pend uses faults total busy
second_next s p u was i pending used bad here o e n f y k d l ro lo re rn rf ry rk rd q =
    let h : i + 1 ≡ suc i = omega arith in
    record {
      within = omega arith;
      pending_is = rw h at_pend;
      used_is = rw h at_used;
      bad_is = rw h at_bad;
      here_is = rn;
      pending_le = omega (arith, q.pending_le);
      used_le = omega (arith, q.used_le);
    }
  where
    at_pend : d ≡ pend s.occupied s.runend p (suc i)
    at_pend = omega (arith, q.pending_is)

    at_used : used + k ≡ u + uses s p (suc i)
    at_used = omega (arith, q.used_is, q.pending_is)

    same : fault pending o e here n ≡ fault (pend s.occupied s.runend p i) (s.occupied i) (s.runend i) (s.remainder i) (s.remainder (suc i))
    same =
        let h : i + 1 ≡ suc i = omega arith in
        rw (q.pending_is, ro, re, q.here_is, rn, h)

    at_bad : y ≡ min 1 (was + faults s p (suc i))
    at_bad = omega (arith, q.bad_is, same)

pub second_done : (s : Sight) (c : Cursor) (i pending used bad here : ℕ) → 64 ≤ i
    → SecondLoop s c.pending c.used (c.bad + block_fault s c.pending) i pending used bad here
    → record { passed = c.passed + 1; owed = c.owed; pending = pending; used = used; bad = bad } ≡ second_round s c
unfolding second_round
second_done s c i pending used bad here l f =
    let e : i ≡ 64 = omega (arith, f.within) in
    let b : bad ≡ min 1 (c.bad + block_fault s c.pending + faults s c.pending 64) = rw e at f.bad_is in
    cursor_ext _ _ _ _ _ _ _ _ _ _ (omega arith) refl (rw e at f.pending_is) (rw e at f.used_is) (b ∙ ap (min 1) (omega arith))

-- the most that the remainder of a slot may be, with p runs pending on it, the runend bit e and the next slot's remainder n
unfoldable pub most : ℕ → ℕ → ℕ → ℕ
most p e n = choose (dec_le 1 p) (choose (dec_le 1 e) (2 ^ 64 - 1) n) 0

-- a slot fails if its remainder is more, or if it has a runend bit with nothing pending
pub fails : (p o e r n : ℕ) → e < 2 → r < 2 ^ 64 → min 1 (min 1 (r - most (p + o) e n) + min 1 (e - (p + o))) ≡ min 1 (fault p o e r n)
unfolding most fault choose
fails p o e r n b l = go (dec_le 1 (p + o)) (dec_le 1 e)
  where
    go : (d : Dec (1 ≤ p + o)) (d' : Dec (1 ≤ e)) → min 1 (min 1 (r - choose d (choose d' (2 ^ 64 - 1) n) 0) + min 1 (e - (p + o))) ≡ min 1 (choose d (choose d' 0 (r - n)) (r + e))
    go (yes h) (yes k) = omega arith
    go (yes h) (no k) = omega arith
    go (no h) y = omega arith

-- ---- a budget
module _ (B : ℕ) (v : Views) (tail : ℕ) (c : Cursor) where
  pub steps_next : (k : ℕ) (at at' : Cursor) → at ≡ steps B v tail k c → at' ≡ step B v tail at → at' ≡ steps B v tail (k + 1) c
  unfolding steps
  steps_next k at at' g e =
      let n : k + 1 ≡ suc k = omega arith in
      rw n (e ∙ ap (step B v tail) g)

  still : (k : ℕ) (at : Cursor) → B + B ≤ at.passed → steps B v tail k at ≡ at
  unfolding steps
  still zero at a = refl
  still (suc k) at a = ap (step B v tail) (still k at a) ∙ step_end B v tail at a

  -- two rounds are passed before the budget is
  pub steps_early : (k budget : ℕ) (at : Cursor) → at ≡ steps B v tail k c → k ≤ budget → B + B ≤ at.passed → at ≡ steps B v tail budget c
  steps_early k budget at g l a =
      let n : k + (budget - k) ≡ budget = omega arith in
      sym (rw n at (steps_add B v tail k (budget - k) c) ∙ ap (steps B v tail (budget - k)) (sym g) ∙ still (budget - k) at a)
