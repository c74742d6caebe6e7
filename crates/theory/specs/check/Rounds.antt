-- What the cursor says after each block of the first round and of the second; after both it answers what the queue accepts.
-- Assumes nothing.
use Prim.Native.Nat.{ℕ, zero, suc, ◌+◌, ◌-◌, ◌*◌, ◌%◌, ◌≤◌, ◌<◌, min}
use Rattle.std.specs.Prelude.{◌≡◌}
use Rattle.std.proofs.Math.Path.{refl, sym, ap, ap₂}
use Rattle.std.proofs.Common.{◌∙◌, arith, add-zero, add-suc}
use Rattle.std.proofs.Math.Decide.{dec_le, dec_lt, ℕ_discrete}
use Rattle.theory.specs.tools.Choose.{choose, choose_yes, choose_no, choose_by}
use Rattle.theory.specs.tools.Total.{total, total_same, total_add, total_zero, total_one, total_empty}
use Rattle.theory.specs.Image.{Views}
use Rattle.theory.specs.check.Queue.{pend, owed, dist, busy, ring, Slot, wrapped, queue, Accepted, pend_zero, pend_more, pend_add, owed_add}
use Rattle.theory.specs.check.Step.{uses, first_round, step, faults, differ, second_round, Answer, step_second, sight, Cursor, fault, begin, step_first, steps}

-- ---- the tests of a slot and of a block, as numbers
pub fault_none : (p o e r r' : ℕ) → Slot p o e r r' → fault p o e r r' ≡ 0
unfolding fault
fault_none p o e r r' s =
    choose_by (λ z. z ≡ 0) (dec_le 1 (p + o)) (λ h. choose_by (λ z. z ≡ 0) (dec_le 1 e) (λ _. refl) (λ k. omega (arith, s.rising h (omega arith))))
    (λ h. omega (arith, s.free_remainder (omega arith), s.free_runend (omega arith)))

pub none_fault : (p o e r r' : ℕ) → fault p o e r r' ≡ 0 → Slot p o e r r'
unfolding fault
none_fault p o e r r' z = record {
  free_remainder = λ h. omega (arith, sym (choose_no (dec_le 1 (p + o)) _ _ (λ k. omega arith)) ∙ z);
  free_runend = λ h. omega (arith, sym (choose_no (dec_le 1 (p + o)) _ _ (λ k. omega arith)) ∙ z);
  rising = λ h k. omega (arith, sym (choose_no (dec_le 1 e) _ _ (λ j. omega arith)) ∙ sym (choose_yes (dec_le 1 (p + o)) _ _ h) ∙ z);
}

pub differ_none : (a b : ℕ) → differ a b ≡ 0 → a ≡ b
unfolding differ
differ_none a b e = omega arith

pub differ_same : (a b : ℕ) → a ≡ b → differ a b ≡ 0
unfolding differ
differ_same a b e = omega arith

pub dist_shift : (E : ℕ → ℕ) (y k p t : ℕ) → dist (λ i. E (y + i)) k p t ≡ dist E k p (y + t)
unfolding dist
dist_shift E y zero p t = refl
dist_shift E y (suc k) p t = ap (λ z. choose (dec_le 1 p) (suc z) 0) (dist_shift E y k (p - E (y + t)) (suc t) ∙ ap (dist E k (p - E (y + t))) (add-suc y t))

module _ (B : ℕ) (v : Views) (tail : ℕ) where
  abbrev O : ℕ → ℕ
  O = ring (64 * B) v.occupied

  abbrev E : ℕ → ℕ
  E = ring (64 * B) v.runend

  -- after k blocks of the first round
  pub record First (k : ℕ) (c : Cursor) : Type 0 where
    pub passed : c.passed ≡ k
    pub owed_is : c.owed ≡ owed O E 0 (64 * k)
    pub pending : c.pending ≡ pend O E 0 (64 * k)
    pub used : c.used ≡ 0
    pub bad : c.bad ≡ 0

  next_pend : (p k : ℕ) → pend (λ i. O (64 * k + i)) (λ i. E (64 * k + i)) (pend O E p (64 * k)) 64 ≡ pend O E p (64 * suc k)
  next_pend p k = sym (pend_add O E p (64 * k) 64) ∙ ap (pend O E p) (omega arith)

  next_owed : (p k : ℕ) → owed O E p (64 * k) + owed (λ i. O (64 * k + i)) (λ i. E (64 * k + i)) (pend O E p (64 * k)) 64 ≡ owed O E p (64 * suc k)
  next_owed p k = sym (owed_add O E p (64 * k) 64) ∙ ap (owed O E p) (omega arith)

  first_begin : First 0 begin
  unfolding owed pend
  first_begin = record { passed = refl; owed_is = refl; pending = refl; used = refl; bad = refl }

  first_step : (k : ℕ) (c : Cursor) → First k c → First (suc k) (first_round (sight B v tail k).occupied (sight B v tail k).runend c)
  unfolding first_round sight
  first_step k c f = record {
    passed = ap suc f.passed;
    owed_is = rw (f.owed_is, f.pending) (next_owed 0 k);
    pending = rw f.pending (next_pend 0 k);
    used = f.used;
    bad = f.bad;
  }

  pub first_is : (k : ℕ) → k ≤ B → First k (steps B v tail k begin)
  unfolding steps
  first_is zero b = first_begin
  first_is (suc k) b = on (first_is k (omega arith))
    where
      on : First k (steps B v tail k begin) → First (suc k) (step B v tail (steps B v tail k begin))
      on f = rw (step_first B v tail (steps B v tail k begin) (omega (arith, f.passed)), f.passed) (first_step k (steps B v tail k begin) f)

  -- the runs pending before a slot of the second round, which goes on where the first stopped
  abbrev P : ℕ → ℕ
  P = pend O E (pend O E 0 (64 * B))

  abbrev slot_fault : ℕ → ℕ
  slot_fault s = fault (P s) (O s) (E s) (v.remainder (s % (64 * B))) (v.remainder (suc s % (64 * B)))

  pub record Clean (k : ℕ) : Type 0 where
    pub slots : (s : ℕ) → s < 64 * k → slot_fault s ≡ 0
    pub offsets : (b : ℕ) → b < k → v.offset b ≡ dist E 255 (P (64 * b)) (64 * b)
    pub tail_zero : 0 < k → tail ≡ 0

  pub record Second (k : ℕ) (c : Cursor) : Type 0 where
    pub passed : c.passed ≡ B + k
    pub owed_is : c.owed ≡ owed O E 0 (64 * B)
    pub pending : c.pending ≡ P (64 * k)
    pub used : c.used ≡ total (λ s. busy (P s) (O s)) (64 * k)
    pub clean : c.bad ≡ 0 → Clean k
    pub good : Clean k → c.bad ≡ 0

  second_begin : (c : Cursor) → First B c → Second 0 c
  second_begin c f = record {
    passed = f.passed ∙ sym (add-zero B);
    owed_is = f.owed_is;
    pending = f.pending ∙ sym (pend_zero O E (pend O E 0 (64 * B)));
    used = f.used ∙ sym (total_zero (λ s. busy (P s) (O s)));
    clean = λ _. record { slots = λ s b. absurd (omega arith); offsets = λ b l. absurd (omega arith); tail_zero = λ l. absurd (omega arith) };
    good = λ _. f.bad;
  }

  next_total : (f : ℕ → ℕ) (k : ℕ) → total f (64 * k) + total (λ i. f (64 * k + i)) 64 ≡ total f (64 * suc k)
  next_total f k = sym (total_add f (64 * k) 64) ∙ ap (total f) (omega arith)

  -- the block's own queue is the whole one from its first slot on
  here : (k i : ℕ) → pend (λ i. O (64 * k + i)) (λ i. E (64 * k + i)) (P (64 * k)) i ≡ P (64 * k + i)
  here k i = sym (pend_add O E (pend O E 0 (64 * B)) (64 * k) i)

  uses_is : (k : ℕ) → uses (sight B v tail k) (P (64 * k)) 64 ≡ total (λ i. busy (P (64 * k + i)) (O (64 * k + i))) 64
  unfolding uses sight
  uses_is k = total_same _ _ 64 (λ i b. ap (λ z. busy z (O (64 * k + i))) (here k i))

  faults_is : (k : ℕ) → faults (sight B v tail k) (P (64 * k)) 64 ≡ total (λ i. slot_fault (64 * k + i)) 64
  unfolding faults sight
  faults_is k = total_same _ _ 64 (λ i b. ap₂ (λ p t. fault p (O (64 * k + i)) (E (64 * k + i)) (v.remainder ((64 * k + i) % (64 * B))) (v.remainder (t % (64 * B)))) (here k i) (add-suc (64 * k) i))

  far_is : (k : ℕ) → dist (λ i. E (64 * k + i)) 255 (P (64 * k)) 0 ≡ dist E 255 (P (64 * k)) (64 * k)
  far_is k = dist_shift E (64 * k) 255 (P (64 * k)) 0 ∙ ap (dist E 255 (P (64 * k))) (add-zero (64 * k))

  second_step : (k : ℕ) (c : Cursor) → Second k c → Second (suc k) (second_round (sight B v tail k) c)
  unfolding second_round sight
  second_step k c f = record {
    passed = ap suc f.passed ∙ sym (add-suc B k);
    owed_is = f.owed_is;
    pending = rw f.pending (next_pend (pend O E 0 (64 * B)) k);
    used = rw (f.used, f.pending, uses_is k) (next_total (λ s. busy (P s) (O s)) k);
    clean = λ z. cleaned (parts (rw (f.pending, faults_is k, far_is k) at z));
    good = λ q. rw (f.pending, faults_is k, far_is k) (omega (arith, f.good (before q), total_empty (λ i. slot_fault (64 * k + i)) 64 (λ i b. q.slots (64 * k + i) (omega arith)), differ_same (v.offset k) _ (q.offsets k (omega arith)), q.tail_zero (omega arith)));
  }
    where
      before : Clean (suc k) → Clean k
      before q = record { slots = λ s b. q.slots s (omega arith); offsets = λ b l. q.offsets b (omega arith); tail_zero = λ l. q.tail_zero (omega arith) }

      parts : min 1 (c.bad + total (λ i. slot_fault (64 * k + i)) 64 + (differ (v.offset k) (dist E 255 (P (64 * k)) (64 * k)) + tail)) ≡ 0
          → (c.bad ≡ 0) × (total (λ i. slot_fault (64 * k + i)) 64 ≡ 0) × (differ (v.offset k) (dist E 255 (P (64 * k)) (64 * k)) ≡ 0) × (tail ≡ 0)
      parts z = omega arith

      cleaned : (c.bad ≡ 0) × (total (λ i. slot_fault (64 * k + i)) 64 ≡ 0) × (differ (v.offset k) (dist E 255 (P (64 * k)) (64 * k)) ≡ 0) × (tail ≡ 0) → Clean (suc k)
      cleaned z = record { slots = λ s b. slot s b (dec_lt s (64 * k)); offsets = λ b l. off b l (ℕ_discrete b k); tail_zero = λ l. z.3 }
        where
          slot : (s : ℕ) → s < 64 * suc k → Dec (s < 64 * k) → slot_fault s ≡ 0
          slot s b (yes l) = (f.clean z.0).slots s l
          slot s b (no l) =
              let e : 64 * k + (s - 64 * k) ≡ s = omega arith in
              let q : slot_fault (64 * k + (s - 64 * k)) ≡ 0 = omega (arith, z.1, total_one (λ i. slot_fault (64 * k + i)) (s - 64 * k) 64 (omega arith)) in
              rw e at q

          off : (b : ℕ) → b < suc k → Dec (b ≡ k) → v.offset b ≡ dist E 255 (P (64 * b)) (64 * b)
          off b l (yes e) = rw e (differ_none _ _ z.2)
          off b l (no e) = (f.clean z.0).offsets b (omega arith)

  pub second_is : (k : ℕ) → k ≤ B → Second k (steps B v tail (B + k) begin)
  unfolding steps
  second_is zero b = rw (add-zero B) (second_begin _ (first_is B (omega arith)))
  second_is (suc k) b = rw (add-suc B k) (on (second_is k (omega arith)))
    where
      on : Second k (steps B v tail (B + k) begin) → Second (suc k) (step B v tail (steps B v tail (B + k) begin))
      on f =
          let e : (steps B v tail (B + k) begin).passed - B ≡ k = omega (arith, f.passed) in
          rw (step_second B v tail (steps B v tail (B + k) begin) (omega (arith, f.passed)) (omega (arith, f.passed)), e) (second_step k (steps B v tail (B + k) begin) f)

  -- the answer after two rounds is the queue's
  pub answer_accepted : (n : ℕ) → 0 < B → Answer B n (steps B v tail (B + B) begin) → Accepted (64 * B) v n × (tail ≡ 0)
  unfolding wrapped queue
  answer_accepted n p a = (
    record {
      level = start;
      slots = λ s b. rw start at (none_fault _ _ _ _ _ (q.slots s b));
      offsets = λ b k. rw start at (q.offsets b (omega arith));
      count = rw start at (sym f.used ∙ a.count);
    },
    q.tail_zero p,
  )
    where
      f : Second B (steps B v tail (B + B) begin)
      f = second_is B (omega arith)

      q : Clean B
      q = f.clean a.good

      start : pend O E 0 (64 * B) ≡ owed O E 0 (64 * B)
      start = omega (arith, f.pending, f.owed_is, a.level, pend_more O E (pend O E 0 (64 * B)) (64 * B))

  pub accepted_answer : (n : ℕ) → Accepted (64 * B) v n → tail ≡ 0 → Answer B n (steps B v tail (B + B) begin)
  unfolding wrapped queue
  accepted_answer n a z = record {
    ended = f.passed;
    good = f.good (record {
      slots = λ s b. rw a.level (fault_none _ _ _ _ _ (a.slots s b));
      offsets = λ b l. rw a.level (a.offsets b (omega arith));
      tail_zero = λ _. z;
    });
    level = omega (arith, f.pending, f.owed_is, a.level, pend_more O E (pend O E 0 (64 * B)) (64 * B));
    count = f.used ∙ rw a.level a.count;
  }
    where
      f : Second B (steps B v tail (B + B) begin)
      f = second_is B (omega arith)
