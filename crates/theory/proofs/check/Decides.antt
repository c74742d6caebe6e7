-- The check decides soundness: the cursor's answer after two rounds says whether the bytes are the image of a holding that has len fingerprints.
-- Assumes nothing.
use Rattle.std.specs.Prelude.{ℕ, ◌+◌, ◌*◌, ◌^◌, ◌≤◌, ◌<◌, ◌≡◌, List, length}
use Rattle.std.proofs.Common.{arith, pow_pos}
use Rattle.theory.specs.number.Bytes.{Bytes, le}
use Rattle.theory.specs.number.Field.{field_lt}
use Rattle.theory.specs.Holding.{Holding}
use Rattle.theory.specs.Shape.{Widths, blocks, bytes, slots}
use Rattle.theory.specs.Image.{Views}
use Rattle.theory.specs.images.Block.{views, spot, tail_at, cell_at}
use Rattle.theory.specs.images.ImageBytes.{image_tail}
use Rattle.theory.proofs.images.IsImage.{image_is, is_image}
use Rattle.theory.specs.images.Sizes.{slots_blocks}
use Rattle.theory.specs.images.ByViews.{Image}
use Rattle.theory.specs.check.Accepts.{accepted_image}
use Rattle.theory.specs.check.Buffer.{steps_on}
use Rattle.theory.specs.check.Complete.{image_accepted}
use Rattle.theory.specs.check.ReadBack.{Bits}
use Rattle.theory.specs.check.Rounds.{answer_accepted, accepted_answer}
use Rattle.theory.specs.check.Step.{steps, begin, Answer}
use Rattle.theory.specs.Sound.{Holds}

-- ---- over the views
module _ (B : ℕ) (v : Views) (tail R : ℕ) (bits : Bits (64 * B) R v) (ends : (s : ℕ) → s < 64 * B → v.runend s ≤ 1) (pos : 0 < R) where
  answer_image : (n : ℕ) → n < 64 * B → Answer B n (steps B v tail (B + B) begin) → ((l : List ℕ) × (length l ≡ n) × Holding (64 * B) R l × Image (64 * B) R l v) × (tail ≡ 0)
  answer_image n few a =
      let q = answer_accepted B v tail n (omega arith) a in
      (accepted_image (64 * B) R v n bits ends (omega arith) q.0 pos few, q.1)

  image_answer : (l : List ℕ) → Holding (64 * B) R l → Image (64 * B) R l v → tail ≡ 0 → Answer B (length l) (steps B v tail (B + B) begin)
  image_answer l h i z = accepted_answer B v tail (length l) (image_accepted (64 * B) R pos l v h i ends) z

-- ---- over the bytes
bit_le : (r d x s : ℕ) → cell_at r d 1 x s ≤ 1
unfolding cell_at
bit_le r d x s = omega (arith, field_lt x (spot r d 1 s) 1)

views_bits : (r B x : ℕ) → Bits (64 * B) (2 ^ r) (views r x)
unfolding cell_at
views_bits r B x = record { occupied = λ s b. bit_le r 1 x s; remainder = λ s b. field_lt x (spot r 17 r s) r }

module _ (q r len : ℕ) (w : Widths q r) (s : List ℕ) where
  m : slots q ≡ 64 * blocks q
  m = slots_blocks q w.low

  pub answer_holds : Bytes s → length s ≡ bytes q r → len < slots q → Answer (blocks q) len (steps_on q r s (blocks q + blocks q) begin) → (l : List ℕ) × Holds q r len s l
  answer_holds b n few a =
      on (answer_image (blocks q) (views r (le s)) (tail_at r (blocks q) (le s)) (2 ^ r) (views_bits r (blocks q) (le s)) (λ t _. bit_le r 9 (le s) t) (pow_pos r) len (omega (arith, m)) a)
    where
      on : ((l : List ℕ) × (length l ≡ len) × Holding (64 * blocks q) (2 ^ r) l × Image (64 * blocks q) (2 ^ r) l (views r (le s))) × (tail_at r (blocks q) (le s) ≡ 0) → (l : List ℕ) × Holds q r len s l
      on p =
          let h : Holding (slots q) (2 ^ r) p.0.0 = rw m p.0.2 in
          let i : Image (slots q) (2 ^ r) p.0.0 (views r (le s)) = rw m p.0.3 in
          (p.0.0, record { holding = h; many = p.0.1; bytes = is_image q r w.low p.0.0 h s b n i p.1 })

  pub holds_image : (l : List ℕ) → Holds q r len s l → Image (slots q) (2 ^ r) l (views r (le s))
  holds_image l h = rw h.bytes (image_is q r w.low l h.holding)

  pub holds_answer : (l : List ℕ) → Holds q r len s l → Answer (blocks q) len (steps_on q r s (blocks q + blocks q) begin)
  holds_answer l h =
      rw h.many at (image_answer (blocks q) (views r (le s)) (tail_at r (blocks q) (le s)) (2 ^ r) (views_bits r (blocks q) (le s)) (λ t _. bit_le r 9 (le s) t) (pow_pos r) l
      (rw m at h.holding) (rw m at (holds_image l h)) (rw h.bytes (image_tail q r l)))
