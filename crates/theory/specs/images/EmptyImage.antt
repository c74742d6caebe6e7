-- The image of the empty list is all zero bytes, and it is sound: what a fresh filter rests on. Assumes nothing.
use Prim.Native.Nat.{ℕ, zero, suc, ◌+◌, ◌*◌, ◌^◌}
use Rattle.std.specs.Prelude.{◌≡◌, [], ◌∷◌, ◌++◌}
use Rattle.std.proofs.Math.Path.{refl, ap, ap₂}
use Rattle.std.proofs.Common.{sym, ◌∙◌, arith, suc-mul}
use Rattle.std.proofs.Math.Nat.{zero-mul}
use Rattle.std.proofs.Math.ListN.{replicate, replicate-append-replicate}
use Rattle.theory.specs.number.Bytes.{to_bytes}
use Rattle.theory.specs.number.Packed.{packed}
use Rattle.theory.specs.Holding.{Ascending, Under, run}
use Rattle.theory.specs.Shape.{Widths, bytes, blocks, slots}
use Rattle.theory.specs.Image.{Views, image, views_of, block_of, blocks_of, many, run_at, occ, carry, walk}
use Rattle.theory.specs.images.LaidOut.{cell_all}
use Rattle.theory.specs.images.ImageBytes.{image_length}
use Rattle.theory.specs.images.Sizes.{slots_pos}
use Rattle.theory.specs.refusals.ByNumber.{clear, clear_none}
use Rattle.theory.specs.Refusal.{max_due}
use Rattle.theory.specs.Sound.{Holds, Sound}

-- ---- views that are 0 everywhere make zero bytes
zero_bytes : (n : ℕ) → to_bytes n 0 ≡ replicate n 0
unfolding to_bytes
zero_bytes zero = refl
zero_bytes (suc n) = ap (λ t. 0 ∷ t) (zero_bytes n)

packed_zero : (w : ℕ) (f : ℕ → ℕ) (k : ℕ) → ((i : ℕ) → f i ≡ 0) → packed w f k ≡ 0
unfolding packed
packed_zero w f zero h = refl
packed_zero w f (suc k) h = rw (h k, zero-mul, packed_zero w f k h)

record Zero (v : Views) : Type 0 where
  occupied : (s : ℕ) → v.occupied s ≡ 0
  runend : (s : ℕ) → v.runend s ≡ 0
  remainder : (s : ℕ) → v.remainder s ≡ 0
  offset : (b : ℕ) → v.offset b ≡ 0

module _ (r : ℕ) (v : Views) (z : Zero v) where
  block_zero : (b : ℕ) → block_of r v b ≡ replicate (17 + 8 * r) 0
  unfolding block_of
  block_zero b =
      rw (
        z.offset b,
        packed_zero 1 (λ i. v.occupied (64 * b + i)) 64 (λ i. z.occupied (64 * b + i)),
        packed_zero 1 (λ i. v.runend (64 * b + i)) 64 (λ i. z.runend (64 * b + i)),
        packed_zero r (λ i. v.remainder (64 * b + i)) 64 (λ i. z.remainder (64 * b + i)),
      )
      (rw (zero_bytes 1, zero_bytes 8, zero_bytes (8 * r)) (replicate-append-replicate 17 (8 * r) 0))

  blocks_zero : (k : ℕ) → blocks_of r v k ≡ replicate (k * (17 + 8 * r)) 0
  unfolding blocks_of
  blocks_zero zero = rw zero-mul
  blocks_zero (suc k) =
      ap₂ (λ a b. a ++ b) (blocks_zero k) (block_zero k) ∙ replicate-append-replicate (k * (17 + 8 * r)) (17 + 8 * r) 0
      ∙ ap (λ n. replicate n 0) (sym (suc-mul k (17 + 8 * r)))

-- ---- the views of the empty list are 0 everywhere
module _ (m R : ℕ) where
  many_zero : (x : ℕ) → many m R [] x ≡ 0
  unfolding many run_at run
  many_zero x = refl

  walk_zero : (x : ℕ) → walk (many m R []) 0 x ≡ 0
  unfolding walk
  walk_zero zero = refl
  walk_zero (suc x) = omega (arith, walk_zero x, many_zero x)

  carry_zero : (x : ℕ) → carry m (many m R []) x ≡ 0
  unfolding carry
  carry_zero x = rw (walk_zero m) (walk_zero x)

  views_zero : Zero (views_of m R [])
  unfolding views_of occ
  views_zero = record {
    occupied = λ s. rw (many_zero s);
    runend = λ s. cell_all (λ z. z ≡ 0) m (many m R []) _ refl m (λ x b j l. absurd (omega (arith, many_zero x))) s;
    remainder = λ s. cell_all (λ z. z ≡ 0) m (many m R []) _ refl m (λ x b j l. absurd (omega (arith, many_zero x))) s;
    offset = λ b. rw (carry_zero (64 * b));
  }

pub image_empty : (q r : ℕ) → image q r [] ≡ replicate (bytes q r) 0
unfolding image bytes
image_empty q r =
    ap₂ (λ a b. a ++ b) (blocks_zero r _ (views_zero (slots q) (2 ^ r)) (blocks q)) (zero_bytes 8) ∙ replicate-append-replicate (blocks q * (17 + 8 * r)) 8 0

-- ---- so a fresh filter is sound and holds nothing
pub holds_empty : (q r : ℕ) → Holds q r 0 (image q r []) []
unfolding Ascending Under
holds_empty q r = record { holding = record { ascending = tt; under = tt; fewer = slots_pos q }; many = refl; bytes = refl }

pub sound_empty : (q r mx : ℕ) → Widths q r → max_due q r mx ≡ 0 → Sound q r 0 mx (image q r [])
sound_empty q r mx w h = record {
  none = clear_none q r 0 mx _ (clear w (image_length q r []) (omega arith) h);
  held = [];
  holds = holds_empty q r;
}
