-- The check over the bytes s of a buffer with qbits q and rbits r, and how code meets it: what it reads is what a step sees.
-- Assumes nothing.
use Rattle.std.specs.Prelude.{ℕ, ◌+◌, ◌-◌, ◌*◌, ◌%◌, ◌≤◌, ◌<◌, min, ◌≡◌, refl, List}
use Rattle.std.proofs.Common.{sym, ap₂, ◌∙◌, arith, mod-eq_of_lt}
use Rattle.std.proofs.Math.Path.{ap}
use Rattle.theory.specs.number.Bytes.{le}
use Rattle.theory.specs.number.Field.{field}
use Rattle.theory.specs.Shape.{blocks}
use Rattle.theory.specs.images.Block.{views, offset_at, tail_at, cell_at, word_bit, word_at}
use Rattle.theory.specs.check.Queue.{dist}
use Rattle.theory.specs.check.Step.{steps, sight, Sight, Cursor, step, first_round, first_same, block_fault, differ, step_first, step_second, second_round, step_end}

-- one block more, and k blocks more
abbrev pub step_on : ℕ → ℕ → List ℕ → Cursor → Cursor
step_on q r s c = step (blocks q) (views r (le s)) (tail_at r (blocks q) (le s)) c

abbrev pub steps_on : ℕ → ℕ → List ℕ → ℕ → Cursor → Cursor
steps_on q r s k c = steps (blocks q) (views r (le s)) (tail_at r (blocks q) (le s)) k c

-- what a step sees of block b
abbrev pub sight_on : ℕ → ℕ → List ℕ → ℕ → Sight
sight_on q r s b = sight (blocks q) (views r (le s)) (tail_at r (blocks q) (le s)) b

-- ---- what code reads is what a step sees
module _ (q r b : ℕ) (s : List ℕ) (l : b < blocks q) where
  inside : (i : ℕ) → i < 64 → (64 * b + i) % (64 * blocks q) ≡ 64 * b + i
  inside i k =
      let h : 64 * b + i < 64 * blocks q = omega arith in
      mod-eq_of_lt h

  -- bit i of the block's word from byte d on
  seen : (d w i o : ℕ) → w ≡ word_at r d (le s) b → i < 64 → o ≡ field w i 1 → o ≡ cell_at r d 1 (le s) ((64 * b + i) % (64 * blocks q))
  seen d w i o e k h = h ∙ ap (λ z. field z i 1) e ∙ word_bit r d (le s) b i k ∙ sym (ap (cell_at r d 1 (le s)) (inside i k))

  pub sees_occupied : (w i o : ℕ) → w ≡ word_at r 1 (le s) b → i < 64 → o ≡ field w i 1 → o ≡ (sight_on q r s b).occupied i
  unfolding sight
  sees_occupied w i o e k h = seen 1 w i o e k h

  pub sees_runend : (w i o : ℕ) → w ≡ word_at r 9 (le s) b → i < 64 → o ≡ field w i 1 → o ≡ (sight_on q r s b).runend i
  unfolding sight
  sees_runend w i o e k h = seen 9 w i o e k h

  pub sees_words : (w e : ℕ) (c : Cursor) → w ≡ word_at r 1 (le s) b → e ≡ word_at r 9 (le s) b
      → first_round (λ i. field w i 1) (λ i. field e i 1) c ≡ first_round (sight_on q r s b).occupied (sight_on q r s b).runend c
  sees_words w e c f g = first_same _ _ _ _ c (λ i k. sees_occupied w i (field w i 1) f k refl) (λ i k. sees_runend e i (field e i 1) g k refl)

-- a cell of slot t, i places on from the block's first, round the end
module _ (q r b : ℕ) (s : List ℕ) (i t n : ℕ) (e : t ≡ (64 * b + i) % (64 * blocks q)) where
  pub sees_remainder : n ≡ cell_at r 17 r (le s) t → n ≡ (sight_on q r s b).remainder i
  unfolding sight
  sees_remainder h = h ∙ ap (cell_at r 17 r (le s)) e

  pub sees_end : n ≡ cell_at r 9 1 (le s) t → n ≡ (sight_on q r s b).runend i
  unfolding sight
  sees_end h = h ∙ ap (cell_at r 9 1 (le s)) e

-- the offset byte o, the distance d and the last eight bytes t, as code tests them
pub block_fails : (q r b p : ℕ) (s : List ℕ) (o d t f k : ℕ) → o ≡ offset_at r (le s) b → d ≡ dist (sight_on q r s b).runend 255 p 0 → t ≡ tail_at r (blocks q) (le s)
    → f ≡ min 1 (differ o d) → k ≡ min 1 (f + t) → k ≡ min 1 (block_fault (sight_on q r s b) p)
unfolding sight
block_fails q r b p s o d t f k eo ed et ef ek = omega (arith, ap₂ differ eo ed)

-- ---- a step by its three cases, z the cursor after it
module _ (q r : ℕ) (s : List ℕ) (c z : Cursor) where
  pub step_on_first : (w e : ℕ) → c.passed < blocks q → w ≡ word_at r 1 (le s) c.passed → e ≡ word_at r 9 (le s) c.passed
      → z ≡ first_round (λ i. field w i 1) (λ i. field e i 1) c → z ≡ step_on q r s c
  step_on_first w e l f g h = h ∙ sees_words q r c.passed s l w e c f g ∙ sym (step_first (blocks q) (views r (le s)) (tail_at r (blocks q) (le s)) c l)

  pub step_on_second : (b : ℕ) → blocks q ≤ c.passed → c.passed < 2 * blocks q → b ≡ c.passed - blocks q
      → z ≡ second_round (sight_on q r s b) c → z ≡ step_on q r s c
  step_on_second b a l e h =
      h ∙ ap (λ k. second_round (sight_on q r s k) c) e ∙ sym (step_second (blocks q) (views r (le s)) (tail_at r (blocks q) (le s)) c a (omega arith))

  pub step_on_end : 2 * blocks q ≤ c.passed → z ≡ c → z ≡ step_on q r s c
  step_on_end a e = e ∙ sym (step_end (blocks q) (views r (le s)) (tail_at r (blocks q) (le s)) c (omega arith))
