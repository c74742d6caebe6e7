-- The bytes of the image: how many they are, and that the last eight are zero. That two holdings with one image are equal is in proofs/images/ImageViews. Assumes nothing.
use Rattle.std.specs.Prelude.{ℕ, ◌+◌, ◌*◌, ◌^◌, ◌≡◌, List, ◌++◌, length}
use Rattle.std.proofs.Common.{ap, ◌∙◌, arith, length-append}
use Rattle.theory.specs.number.Bytes.{length_to_bytes, le, to_bytes, Bytes, bytes_to_bytes, append_high, bytes_append}
use Rattle.theory.specs.number.Field.{field}
use Rattle.theory.specs.Shape.{blocks, slots, bytes}
use Rattle.theory.specs.Image.{image, views_of, blocks_of}
use Rattle.theory.specs.images.Block.{block, tail_at}
use Rattle.theory.specs.images.ViewBytes.{blocks_length, blocks_bytes}

pub image_length : (q r : ℕ) (l : List ℕ) → length (image q r l) ≡ bytes q r
unfolding image bytes
image_length q r l = rw (length-append, blocks_length, length_to_bytes)

pub image_bytes : (q r : ℕ) (l : List ℕ) → Bytes (image q r l)
unfolding image
image_bytes q r l = bytes_append (blocks_of r (views_of (slots q) (2 ^ r) l) (blocks q)) (to_bytes 8 0) (blocks_bytes r _ (blocks q)) (bytes_to_bytes 8 0)

pub image_tail : (q r : ℕ) (l : List ℕ) → tail_at r (blocks q) (le (image q r l)) ≡ 0
unfolding image tail_at to_bytes le field
image_tail q r l =
    ap (λ z. field (le (blocks_of r (views_of (slots q) (2 ^ r) l) (blocks q) ++ to_bytes 8 0)) z 64) at
    ∙ append_high (blocks_of r (views_of (slots q) (2 ^ r) l) (blocks q)) (to_bytes 8 0) 0 64
  where
    at : 8 * block r (blocks q) ≡ 8 * length (blocks_of r (views_of (slots q) (2 ^ r) l) (blocks q)) + 0
    at = omega (arith, blocks_length r (views_of (slots q) (2 ^ r) l) (blocks q))
