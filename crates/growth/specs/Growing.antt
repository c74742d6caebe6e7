-- What follows of growth's promise: the grown filter is sound, holds the same list and has room. Assumes nothing.
use Rattle.std.specs.Prelude.{ℕ, ◌+◌, ◌-◌, ◌*◌, ◌<◌, ◌≡◌, refl, List, length}
use Rattle.std.proofs.Common.{arith}
use Rattle.std.proofs.Math.Decide.{dec_lt}
use Rattle.std.proofs.Math.Pow.{pow-add}
use Rattle.theory.specs.Shape.{slots, capacity, fingerprint}
use Rattle.theory.specs.Image.{image}
use Rattle.theory.specs.images.ImageBytes.{image_length}
use Rattle.theory.specs.refusals.ByNumber.{clear, clear_none}
use Rattle.layout.specs.declared.numbers.Numbers.{Numbers}
use Rattle.layout.specs.Records.{lowest_due, fingerprint_of, HoldsOf}
use Rattle.growth.specs.Rebuilding.{grown_to, grow_due, grow_seven, grown_fits}

-- where growth is not refused, max_qbits is above qbits
pub grows_room : (n : Numbers) (size : ℕ) → grow_due n size ≡ 0 → n.qbits < n.max_qbits
grows_room n size e = go (dec_lt n.qbits n.max_qbits)
  where
    go : Dec (n.qbits < n.max_qbits) → n.qbits < n.max_qbits
    go (yes h) = h
    go (no h) = absurd (omega (arith, grow_seven n size (omega arith)))

module _ (n : Numbers) (s l : List ℕ) (e : lowest_due n s ≡ 0) (h : HoldsOf n s l) (above : n.qbits < n.max_qbits) where
  few : length l < slots n.qbits
  few = h.holding.fewer

  twice : slots (n.qbits + 1) ≡ slots n.qbits * 2
  unfolding slots
  twice = pow-add 2 n.qbits 1

  -- the bits of a fingerprint stay, and so does every fingerprint
  pub grown_width : n.qbits + 1 + (n.rbits - 1) ≡ n.qbits + n.rbits
  grown_width = (grown_fits n s e above).0.sum

  pub grown_fingerprint : (len hash : ℕ) → fingerprint_of (grown_to n len) hash ≡ fingerprint_of n hash
  unfolding fingerprint
  grown_fingerprint len hash = rw grown_width

  pub grown_clear : lowest_due (grown_to n (length l)) (image (n.qbits + 1) (n.rbits - 1) l) ≡ 0
  grown_clear =
      let f = (grown_fits n s e above).0 in
      clear_none (n.qbits + 1) (n.rbits - 1) (length l) n.max_qbits _ (clear f.widths (image_length (n.qbits + 1) (n.rbits - 1) l) (omega (arith, f.room, h.many)) f.max_none)

  pub grown_holds : HoldsOf (grown_to n (length l)) (image (n.qbits + 1) (n.rbits - 1) l) l
  unfolding slots
  grown_holds = record {
    holding = record {
      ascending = h.holding.ascending;
      under = rw (← pow-add 2 (n.qbits + 1) (n.rbits - 1), grown_width, pow-add 2 n.qbits n.rbits) h.holding.under;
      fewer = omega (arith, few, twice);
    };
    many = refl;
    bytes = refl;
  }

  -- one copy more fits
  pub grown_room : length l < capacity (n.qbits + 1)
  unfolding capacity
  grown_room = omega (arith, few, twice)
