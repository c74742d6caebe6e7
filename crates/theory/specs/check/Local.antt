-- What a step of the check looks at, over the views. Nothing is settled ahead of its block, and nothing is left for the end.
-- Assumes nothing.
use Prim.Native.Nat.{ℕ, zero, suc, ◌+◌, ◌-◌, ◌*◌, ◌/◌, ◌%◌, ◌≤◌, ◌<◌, min}
use Rattle.std.specs.Prelude.{◌≡◌, ◌⊎◌}
use Rattle.std.proofs.Math.Path.{refl, sym, ap}
use Rattle.std.proofs.Common.{ap₂, ◌∙◌, inl, inr, add-zero, add-suc, mul_comm}
use native.Mathlib.Omega.{arith}
use Rattle.std.proofs.Math.Decide.{dec_lt}
use Rattle.std.proofs.Math.Nat.{mod-eq_of_lt}
use Rattle.std.proofs.Math.Arith.{mod-mul}
use Rattle.theory.specs.tools.Total.{total_same, total}
use Rattle.theory.specs.Image.{Views}
use Rattle.theory.specs.check.Queue.{dist, dist_same, pend, busy, pend_same}
use Rattle.theory.specs.check.Rounds.{First, first_is, second_is}
use Rattle.theory.specs.check.Step.{block_fault, Cursor, begin, sight, first_same, step, steps, step_first, step_end, Sight, uses, faults, cursor_ext, second_round, step_second, fault}

-- the block, the four after it, the offset byte and the last eight bytes
pub record SameNear (s t : Sight) : Type 0 where
  pub occupied : (i : ℕ) → i < 320 → s.occupied i ≡ t.occupied i
  pub runend : (i : ℕ) → i < 320 → s.runend i ≡ t.runend i
  pub remainder : (i : ℕ) → i < 320 → s.remainder i ≡ t.remainder i
  pub offset : s.offset ≡ t.offset
  pub tail : s.tail ≡ t.tail

pub second_same : (s t : Sight) (c : Cursor) → SameNear s t → second_round s c ≡ second_round t c
unfolding second_round uses faults
second_same s t c e = cursor_ext _ _ _ _ _ _ _ _ _ _ refl refl (pends 64 (omega arith)) (ap (λ z. c.used + z) same_uses) bads
  where
    pends : (k : ℕ) → k ≤ 64 → pend s.occupied s.runend c.pending k ≡ pend t.occupied t.runend c.pending k
    pends k l = pend_same s.occupied s.runend t.occupied t.runend c.pending k (λ i b. e.occupied i (omega arith)) (λ i b. e.runend i (omega arith))

    same_uses : total (λ i. busy (pend s.occupied s.runend c.pending i) (s.occupied i)) 64 ≡ total (λ i. busy (pend t.occupied t.runend c.pending i) (t.occupied i)) 64
    same_uses = total_same _ _ 64 (λ i b. ap₂ busy (pends i (omega arith)) (e.occupied i (omega arith)))

    wrong : total (λ i. fault (pend s.occupied s.runend c.pending i) (s.occupied i) (s.runend i) (s.remainder i) (s.remainder (suc i))) 64
        ≡ total (λ i. fault (pend t.occupied t.runend c.pending i) (t.occupied i) (t.runend i) (t.remainder i) (t.remainder (suc i))) 64
    wrong = total_same _ _ 64 (λ i b. rw (pends i (omega arith), e.occupied i (omega arith), e.runend i (omega arith), e.remainder i (omega arith), e.remainder (suc i) (omega arith)))

    far : dist s.runend 255 c.pending 0 ≡ dist t.runend 255 c.pending 0
    far = dist_same s.runend t.runend 255 c.pending 0 (λ j a b. e.runend j (omega arith))

    bads : min 1 (c.bad + total (λ i. fault (pend s.occupied s.runend c.pending i) (s.occupied i) (s.runend i) (s.remainder i) (s.remainder (suc i))) 64 + block_fault s c.pending)
        ≡ min 1 (c.bad + total (λ i. fault (pend t.occupied t.runend c.pending i) (t.occupied i) (t.runend i) (t.remainder i) (t.remainder (suc i))) 64 + block_fault t c.pending)
    bads = rw (wrong, far, e.offset, e.tail)

-- from one cursor, a step gives the same cursor on two buffers that are equal in the block passed, in the next four and in the last eight bytes
pub step_near : (B : ℕ) (v v' : Views) (tail tail' : ℕ) (c : Cursor)
    → (c.passed < B → SameNear (sight B v tail c.passed) (sight B v' tail' c.passed))
    → (B ≤ c.passed → c.passed < B + B → SameNear (sight B v tail (c.passed - B)) (sight B v' tail' (c.passed - B)))
    → step B v tail c ≡ step B v' tail' c
step_near B v v' tail tail' c f g = go (dec_lt c.passed B) (dec_lt c.passed (B + B))
  where
    go : Dec (c.passed < B) → Dec (c.passed < B + B) → step B v tail c ≡ step B v' tail' c
    go (yes l) d = step_first B v tail c l ∙ first_same _ _ _ _ c (λ i b. (f l).occupied i (omega arith)) (λ i b. (f l).runend i (omega arith)) ∙ sym (step_first B v' tail' c l)
    go (no l) (yes h) = step_second B v tail c (omega arith) h ∙ second_same _ _ c (g (omega arith) h) ∙ sym (step_second B v' tail' c (omega arith) h)
    go (no l) (no h) = step_end B v tail c (omega arith) ∙ sym (step_end B v' tail' c (omega arith))

-- two buffers have the same in block x
pub record BlockSame (v v' : Views) (x : ℕ) : Type 0 where
  pub occupied : (i : ℕ) → i < 64 → v.occupied (64 * x + i) ≡ v'.occupied (64 * x + i)
  pub runend : (i : ℕ) → i < 64 → v.runend (64 * x + i) ≡ v'.runend (64 * x + i)
  pub remainder : (i : ℕ) → i < 64 → v.remainder (64 * x + i) ≡ v'.remainder (64 * x + i)
  pub offset : v.offset x ≡ v'.offset x

-- the slot i places on from the first of block b, round the end, and its block
pub slot_block : (B b i : ℕ) → 0 < B → (64 * b + i) % (64 * B) ≡ 64 * ((b + i / 64) % B) + i % 64
slot_block B b i p =
    let q : (64 * b + i) / 64 ≡ b + i / 64 = omega arith in
    let r : (64 * b + i) % 64 ≡ i % 64 = omega arith in
    ap (λ z. (64 * b + i) % z) (mul_comm 64 B) ∙ mod-mul (64 * b + i) {m = B} {c = 64} p (omega arith)
    ∙ omega (arith, ap (λ z. z % B * 64) q, r)

module _ (B : ℕ) (v v' : Views) (tail tail' : ℕ) where
  -- nothing is settled ahead of its block: after k blocks of the first round the cursor is told by the first k blocks alone
  pub steps_prefix : (k : ℕ) → k ≤ B → ((x : ℕ) → x < k → BlockSame v v' x) → steps B v tail k begin ≡ steps B v' tail' k begin
  unfolding steps sight
  steps_prefix zero l h = refl
  steps_prefix (suc k) l h =
      on (first_is B v tail k (omega arith)) (h k (omega arith)) ∙ ap (step B v' tail') (steps_prefix k (omega arith) (λ x b. h x (omega arith)))
    where
      on : First B v tail k (steps B v tail k begin) → BlockSame v v' k → step B v tail (steps B v tail k begin) ≡ step B v' tail' (steps B v tail k begin)
      on f s = step_first B v tail (steps B v tail k begin) (omega (arith, f.passed)) ∙ first_same _ _ _ _ (steps B v tail k begin) occupied runend ∙ sym (step_first B v' tail' (steps B v tail k begin) (omega (arith, f.passed)))
        where
          at : (i : ℕ) → i < 64 → (64 * (steps B v tail k begin).passed + i) % (64 * B) ≡ 64 * k + i
          at i b =
              let c : 64 * k + i < 64 * B = omega arith in
              ap (λ z. (64 * z + i) % (64 * B)) f.passed ∙ mod-eq_of_lt c

          occupied : (i : ℕ) → i < 64 → v.occupied ((64 * (steps B v tail k begin).passed + i) % (64 * B)) ≡ v'.occupied ((64 * (steps B v tail k begin).passed + i) % (64 * B))
          occupied i b = ap v.occupied (at i b) ∙ s.occupied i b ∙ sym (ap v'.occupied (at i b))

          runend : (i : ℕ) → i < 64 → v.runend ((64 * (steps B v tail k begin).passed + i) % (64 * B)) ≡ v'.runend ((64 * (steps B v tail k begin).passed + i) % (64 * B))
          runend i b = ap v.runend (at i b) ∙ s.runend i b ∙ sym (ap v'.runend (at i b))

  -- a step sees its block, the next four, round the end, and the last eight bytes
  near : (b : ℕ) → 0 < B → ((d : ℕ) → d < 5 → BlockSame v v' ((b + d) % B)) → (b < B) → tail ≡ tail' → SameNear (sight B v tail b) (sight B v' tail' b)
  unfolding sight
  near b p h l t = record {
    occupied = λ i c. ap v.occupied (slot_block B b i p) ∙ (h (i / 64) (omega arith)).occupied (i % 64) (omega arith) ∙ sym (ap v'.occupied (slot_block B b i p));
    runend = λ i c. ap v.runend (slot_block B b i p) ∙ (h (i / 64) (omega arith)).runend (i % 64) (omega arith) ∙ sym (ap v'.runend (slot_block B b i p));
    remainder = λ i c. ap v.remainder (slot_block B b i p) ∙ (h (i / 64) (omega arith)).remainder (i % 64) (omega arith) ∙ sym (ap v'.remainder (slot_block B b i p));
    offset = rw e at (h 0 (omega arith)).offset;
    tail = t;
  }
    where
      e : (b + 0) % B ≡ b
      e = ap (λ z. z % B) (add-zero b) ∙ mod-eq_of_lt l

  -- nothing is left for the end: a step from any cursor
  pub step_local : (c : Cursor) → 0 < B
      → ((b : ℕ) → b < B → (c.passed ≡ b) ⊎ (c.passed ≡ B + b) → ((d : ℕ) → d < 5 → BlockSame v v' ((b + d) % B)))
      → tail ≡ tail' → step B v tail c ≡ step B v' tail' c
  step_local c p h t = step_near B v v' tail tail' c
      (λ l. near c.passed p (h c.passed l (inl refl)) l t)
      (λ a l. near (c.passed - B) p (h (c.passed - B) (omega arith) (inr (omega arith))) (omega arith) t)

-- two rounds finish it, and nothing moves after that
module _ (B : ℕ) (v : Views) (tail : ℕ) where
  pub steps_end : (k : ℕ) → steps B v tail (B + B + k) begin ≡ steps B v tail (B + B) begin
  unfolding steps
  steps_end zero = ap (λ z. steps B v tail z begin) (add-zero (B + B))
  steps_end (suc k) =
      rw (add-suc (B + B) k) (ap (step B v tail) (steps_end k) ∙ step_end B v tail (steps B v tail (B + B) begin) (omega (arith, (second_is B v tail B (omega arith)).passed)))
