-- The next occupied quotient, as a walk over the occupieds words answers.
use Rattle.std.specs.Prelude.{Option, Some, None, ℕ, ◌+◌, ◌-◌, ◌*◌, ◌≤◌, ◌<◌, ◌≡◌}
use Rattle.std.proofs.Common.{sym, ap, ◌∙◌, arith}
use Rattle.std.proofs.Math.Decide.{dec_lt}
use Rattle.theory.specs.Image.{Views}
use Rattle.theory.specs.images.Block.{views, cell_at, word_at, word_bit}
use Rattle.bits.specs.Lowest.{Zeros}

-- no quotient from `from` to below `to` is occupied
abbrev pub Vacant : Views → ℕ → ℕ → Type 0
Vacant v from to = (y : ℕ) → from ≤ y → y < to → v.occupied y ≡ 0

-- the first occupied quotient from `from` on, of m
abbrev pub NextOccupied : ℕ → Views → ℕ → Option ℕ → Type 0
NextOccupied m v from (Some x) = (from ≤ x) × (x < m) × (v.occupied x ≡ 1) × Vacant v from x
NextOccupied m v from None = Vacant v from m

-- a word with no ones from digit `skip` to below digit p
pub vacant_word : (r x from b skip p : ℕ) → p ≤ 64 → Vacant (views r x) from (64 * b + skip) → Zeros (word_at r 1 x b) skip p → Vacant (views r x) from (64 * b + p)
vacant_word r x from b skip p l u z y h k = go (dec_lt y (64 * b + skip))
  where
    go : Dec (y < 64 * b + skip) → cell_at r 1 1 x y ≡ 0
    go (yes c) = u y h c
    go (no c) =
        let e : 64 * b + (y - 64 * b) ≡ y = omega arith in
        ap (cell_at r 1 1 x) (sym e) ∙ sym (word_bit r 1 x b (y - 64 * b) (omega arith)) ∙ z (y - 64 * b) (omega arith) (omega arith)
