-- The check block by block: a cursor, one step a block, two rounds. What a step may see is its `Sight`.
-- Assumes nothing.
use Rattle.std.specs.Prelude.{ℕ, zero, suc, ◌+◌, ◌-◌, ◌*◌, ◌%◌, ◌≤◌, ◌<◌, min, ◌≡◌, refl}
use Rattle.std.proofs.Common.{ap, ◌∙◌, arith, add-zero, add-suc}
use Rattle.std.proofs.Math.Decide.{dec_le, dec_lt}
use Rattle.theory.specs.tools.Choose.{choose, choose_yes, choose_no}
use Rattle.theory.specs.tools.Total.{total}
use Rattle.theory.specs.Image.{Views}
use Rattle.theory.specs.check.Queue.{pend, owed, dist, busy, pend_same, owed_same}

-- where the check stands: the blocks passed in both rounds, the runends owed in the first (met with nothing pending, they end runs that go past the
-- last slot), the runs pending, and in the second round the used slots and whether a test failed
pub record Cursor : Type 0 where
  pub passed : ℕ
  pub owed : ℕ
  pub pending : ℕ
  pub used : ℕ
  pub bad : ℕ

abbrev pub begin : Cursor
begin = record { passed = 0; owed = 0; pending = 0; used = 0; bad = 0 }

-- what a step sees: the bits and remainders of the slots from its block's first on, round the end; the block's offset byte; the last eight bytes
pub record Sight : Type 0 where
  pub occupied : ℕ → ℕ
  pub runend : ℕ → ℕ
  pub remainder : ℕ → ℕ
  pub offset : ℕ
  pub tail : ℕ

unfoldable pub sight : ℕ → Views → ℕ → ℕ → Sight
sight B v tail b = record {
  occupied = λ i. v.occupied ((64 * b + i) % (64 * B));
  runend = λ i. v.runend ((64 * b + i) % (64 * B));
  remainder = λ i. v.remainder ((64 * b + i) % (64 * B));
  offset = v.offset b;
  tail = tail;
}

-- 0 exactly if a slot passes, with p pending before it
unfoldable pub fault : ℕ → ℕ → ℕ → ℕ → ℕ → ℕ
fault p o e r r' = choose (dec_le 1 (p + o)) (choose (dec_le 1 e) 0 (r - r')) (r + e)

-- 0 exactly if two numbers are equal
unfoldable pub differ : ℕ → ℕ → ℕ
differ a b = (a - b) + (b - a)

-- the faults of the first k slots, and how many of them are used
unfoldable pub faults : Sight → ℕ → ℕ → ℕ
faults s p k = total (λ i. fault (pend s.occupied s.runend p i) (s.occupied i) (s.runend i) (s.remainder i) (s.remainder (suc i))) k

unfoldable pub uses : Sight → ℕ → ℕ → ℕ
uses s p k = total (λ i. busy (pend s.occupied s.runend p i) (s.occupied i)) k

-- 0 exactly if a block passes besides its slots, with p pending before it: its offset byte says how far the last of them ends, and the last eight
-- bytes are zero
abbrev pub block_fault : Sight → ℕ → ℕ
block_fault s p = differ s.offset (dist s.runend 255 p 0) + s.tail

-- the first round sees the occupied and runend bits of its block only
unfoldable pub first_round : (ℕ → ℕ) → (ℕ → ℕ) → Cursor → Cursor
first_round O E c = record {
  passed = suc c.passed;
  owed = c.owed + owed O E c.pending 64;
  pending = pend O E c.pending 64;
  used = c.used;
  bad = c.bad;
}

unfoldable pub second_round : Sight → Cursor → Cursor
second_round s c = record {
  passed = suc c.passed;
  owed = c.owed;
  pending = pend s.occupied s.runend c.pending 64;
  used = c.used + uses s c.pending 64;
  bad = min 1 (c.bad + faults s c.pending 64 + block_fault s c.pending);
}

-- one block more, of B; nothing after two rounds
unfoldable pub step : ℕ → Views → ℕ → Cursor → Cursor
step B v tail c =
    choose (dec_lt c.passed B) (first_round (sight B v tail c.passed).occupied (sight B v tail c.passed).runend c)
    (choose (dec_lt c.passed (B + B)) (second_round (sight B v tail (c.passed - B)) c) c)

unfoldable pub steps : ℕ → Views → ℕ → ℕ → Cursor → Cursor
steps B v tail zero c = c
steps B v tail (suc k) c = step B v tail (steps B v tail k c)

-- what is read off the last cursor: two rounds are over, no test failed, as many runs are pending as are owed, and n slots are used
pub record Answer (B n : ℕ) (c : Cursor) : Type 0 where
  pub ended : c.passed ≡ B + B
  pub good : c.bad ≡ 0
  pub level : c.pending ≡ c.owed
  pub count : c.used ≡ n

pub steps_add : (B : ℕ) (v : Views) (tail j k : ℕ) (c : Cursor) → steps B v tail (j + k) c ≡ steps B v tail k (steps B v tail j c)
unfolding steps
steps_add B v tail j zero c = rw (add-zero j)
steps_add B v tail j (suc k) c = rw (add-suc j k) (ap (step B v tail) (steps_add B v tail j k c))

module _ (B : ℕ) (v : Views) (tail : ℕ) (c : Cursor) where
  pub step_first : c.passed < B → step B v tail c ≡ first_round (sight B v tail c.passed).occupied (sight B v tail c.passed).runend c
  unfolding step
  step_first l = choose_yes (dec_lt c.passed B) _ _ l

  pub step_second : B ≤ c.passed → c.passed < B + B → step B v tail c ≡ second_round (sight B v tail (c.passed - B)) c
  unfolding step
  step_second a l = choose_no (dec_lt c.passed B) _ _ (λ h. omega arith) ∙ choose_yes (dec_lt c.passed (B + B)) _ _ l

  pub step_end : B + B ≤ c.passed → step B v tail c ≡ c
  unfolding step
  step_end a = choose_no (dec_lt c.passed B) _ _ (λ h. omega arith) ∙ choose_no (dec_lt c.passed (B + B)) _ _ (λ h. omega arith)

-- two cursors are equal by their numbers
pub cursor_ext : (x w p u d x' w' p' u' d' : ℕ) → x ≡ x' → w ≡ w' → p ≡ p' → u ≡ u' → d ≡ d'
    → ◌≡◌ {A = Cursor} (record { passed = x; owed = w; pending = p; used = u; bad = d }) (record { passed = x'; owed = w'; pending = p'; used = u'; bad = d' })
cursor_ext x w p u d x' w' p' u' d' a b e f g = rw (a, b, e, f, g)

-- a step of the first round depends on the 64 bits of each kind that it sees
pub first_same : (O E O' E' : ℕ → ℕ) (c : Cursor) → ((i : ℕ) → i < 64 → O i ≡ O' i) → ((i : ℕ) → i < 64 → E i ≡ E' i) → first_round O E c ≡ first_round O' E' c
unfolding first_round
first_same O E O' E' c f g =
    cursor_ext _ _ _ _ _ _ _ _ _ _ refl (ap (λ z. c.owed + z) (owed_same O E O' E' c.pending 64 f g)) (pend_same O E O' E' c.pending 64 f g) refl refl
