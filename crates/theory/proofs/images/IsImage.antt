-- Every holding has an image, and a buffer is it exactly if its four views are the image and its last eight bytes are zero. Assumes nothing.
use Rattle.std.specs.Prelude.{ℕ, ◌+◌, ◌*◌, ◌^◌, ◌≤◌, ◌<◌, ◌≡◌, List, length}
use Rattle.std.proofs.Math.Path.{sym}
use Rattle.std.proofs.Common.{◌∙◌, arith, pow_pos}
use Rattle.std.proofs.Math.Nat.{mod-eq_of_lt}
use Rattle.theory.specs.number.Bytes.{le, Bytes, le_lt, le_inj}
use Rattle.theory.specs.Holding.{Holding}
use Rattle.theory.specs.Shape.{blocks, slots, bytes}
use Rattle.theory.specs.Image.{image, views_of}
use Rattle.theory.specs.images.Block.{block, tail_at, views}
use Rattle.theory.specs.images.ImageBytes.{image_length, image_bytes, image_tail}
use Rattle.theory.proofs.images.ImageViews.{image_same, image_ends, image_rests}
use Rattle.theory.specs.images.SameBuffer.{buffer_same}
use Rattle.theory.specs.images.Sizes.{slots_blocks}
use Rattle.theory.specs.images.ByViews.{Same, one_image, Image}

module _ (q r : ℕ) (low : 6 ≤ q) (l : List ℕ) (h : Holding (slots q) (2 ^ r) l) where
  -- every holding has an image
  pub image_is : Image (slots q) (2 ^ r) l (views r (le (image q r l)))
  unfolding views_of
  image_is = record {
    occupieds = (image_same q r l low).occupieds;
    runends = image_ends q r low l h;
    remainders = image_rests q r low l h;
    offsets = (image_same q r l low).offsets;
  }

  -- bytes whose views are the image, with zeros at the end, are the image
  pub is_image : (s : List ℕ) → Bytes s → length s ≡ bytes q r → Image (slots q) (2 ^ r) l (views r (le s)) → tail_at r (blocks q) (le s) ≡ 0 → s ≡ image q r l
  unfolding bytes
  is_image s b n i t =
      le_inj s (image q r l) b (image_bytes q r l) (n ∙ sym (image_length q r l))
      (sym (mod-eq_of_lt (small s n)) ∙ buffer_same r (blocks q) (le s) (le (image q r l)) same (t ∙ sym (image_tail q r l)) ∙ mod-eq_of_lt (small (image q r l) (image_length q r l)))
    where
      same : Same (64 * blocks q) (views r (le s)) (views r (le (image q r l)))
      same = rw (slots_blocks q low) at (one_image (slots q) (2 ^ r) l _ _ (pow_pos r) h i image_is)

      small : (u : List ℕ) → length u ≡ blocks q * (17 + 8 * r) + 8 → le u < 2 ^ (64 + 8 * block r (blocks q))
      small u e =
          let z : 8 * length u ≡ 64 + 8 * block r (blocks q) = omega arith in
          rw z at (le_lt u)
