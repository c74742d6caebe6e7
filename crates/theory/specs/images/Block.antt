-- Where things stand in a buffer: blocks of 17 + 8 * r bytes, each an offset byte, the occupieds, the runends and 64 remainders.
-- Occupieds, runends and remainders are one thing: an area from byte d of the block on, with w digits for each of 64 slots. Assumes nothing.
use Rattle.std.specs.Prelude.{ℕ, suc, ◌+◌, ◌*◌, ◌/◌, ◌%◌, ◌^◌, ◌≤◌, ◌<◌, ◌≡◌, ◌⊎◌}
use Rattle.std.proofs.Common.{ap, ◌∙◌, suc-mul, mul-le-mul_right, mul-one, arith}
use Rattle.std.proofs.Math.Logic.{inl, inr}
use Rattle.theory.specs.tools.Cases.{by_eq}
use Rattle.theory.specs.number.Field.{put, by_lt, field, put_above, put_same, put_below, field_field}
use Rattle.theory.specs.Image.{Views}

-- the first byte of block b
abbrev pub block : ℕ → ℕ → ℕ
block r b = b * (17 + 8 * r)

-- the first digit of slot s in the area of w digits a slot from byte d on
unfoldable pub spot : ℕ → ℕ → ℕ → ℕ → ℕ
spot r d w s = 8 * (block r (s / 64) + d) + s % 64 * w

-- what stands there, in a buffer whose number is x; and the buffer with v there
unfoldable pub cell_at : ℕ → ℕ → ℕ → ℕ → ℕ → ℕ
cell_at r d w x s = field x (spot r d w s) w

abbrev pub put_cell : ℕ → ℕ → ℕ → ℕ → ℕ → ℕ → ℕ
put_cell r d w x s v = put x (spot r d w s) w v

-- the offset byte of block b
unfoldable pub offset_at : ℕ → ℕ → ℕ → ℕ
offset_at r x b = field x (8 * block r b) 8

-- the eight bytes behind block B - 1
unfoldable pub tail_at : ℕ → ℕ → ℕ → ℕ
tail_at r B x = field x (8 * block r B) 64

-- a buffer's number as views
abbrev pub views : ℕ → ℕ → Views
views r x = record { occupied = cell_at r 1 1 x; runend = cell_at r 9 1 x; remainder = cell_at r 17 r x; offset = offset_at r x }

-- an area that lies in the block behind the offset byte: 8 * w bytes from byte d on
pub record Area (r d w : ℕ) : Type 0 where
  pub behind : 1 ≤ d
  pub inside : d + 8 * w ≤ 17 + 8 * r

pub occupieds : (r : ℕ) → Area r 1 1
occupieds r = record { behind = omega arith; inside = omega arith }

pub runends : (r : ℕ) → Area r 9 1
runends r = record { behind = omega arith; inside = omega arith }

pub remainders : (r : ℕ) → Area r 17 r
remainders r = record { behind = omega arith; inside = omega arith }

-- ---- where a spot lies
pub spot_low : (r d w s : ℕ) → 8 * (block r (s / 64) + d) ≤ spot r d w s
unfolding spot
spot_low r d w s = omega arith

pub spot_high : (r d w s : ℕ) → spot r d w s + w ≤ 8 * (block r (s / 64) + d) + 64 * w
unfolding spot
spot_high r d w s = omega (arith, suc-mul (s % 64) w, mul-le-mul_right {m = suc (s % 64)} {n = 64} w (omega arith))

pub block_le : (r b c : ℕ) → b < c → block r b + (17 + 8 * r) ≤ block r c
block_le r b c l = omega (arith, suc-mul b (17 + 8 * r), mul-le-mul_right {m = suc b} {n = c} (17 + 8 * r) l)

-- two slots of one area stand apart
pub spot_apart : (r d w : ℕ) → Area r d w → (s t : ℕ) → s < t → spot r d w s + w ≤ spot r d w t
unfolding spot
spot_apart r d w a s t l = by_lt (s / 64) (t / 64) far near
  where
    far : s / 64 < t / 64 → spot r d w s + w ≤ spot r d w t
    far m = omega (arith, spot_high r d w s, spot_low r d w t, block_le r (s / 64) (t / 64) m, a.inside)

    near : t / 64 ≤ s / 64 → spot r d w s + w ≤ spot r d w t
    near m =
        let e : s / 64 ≡ t / 64 = omega arith in
        rw e (omega (arith, suc-mul (s % 64) w, mul-le-mul_right {m = suc (s % 64)} {n = t % 64} w (omega arith)))

-- a spot of one area and one of a later area of the block stand apart, whatever the slots
pub areas_apart : (r d w d' w' : ℕ) → Area r d w → Area r d' w' → d + 8 * w ≤ d' → (s t : ℕ)
    → (spot r d w s + w ≤ spot r d' w' t) ⊎ (spot r d' w' t + w' ≤ spot r d w s)
areas_apart r d w d' w' a a' h s t = by_lt (t / 64) (s / 64)
    (λ l. inr (omega (arith, spot_high r d' w' t, spot_low r d w s, block_le r (t / 64) (s / 64) l, a'.inside)))
    (λ l. inl (by_eq (s / 64) (t / 64)
    (λ e. omega (arith, spot_high r d w s, spot_low r d' w' t, ap (block r) e))
    (λ ne. omega (arith, spot_high r d w s, spot_low r d' w' t, block_le r (s / 64) (t / 64) (omega arith), a.inside))))

-- an offset byte stands apart from every area
pub offset_apart : (r d w : ℕ) → Area r d w → (b s : ℕ) → (8 * block r b + 8 ≤ spot r d w s) ⊎ (spot r d w s + w ≤ 8 * block r b)
offset_apart r d w a b s = by_lt (s / 64) b
    (λ l. inr (omega (arith, spot_high r d w s, block_le r (s / 64) b l, a.inside)))
    (λ l. inl (by_eq b (s / 64)
    (λ e. omega (arith, spot_low r d w s, ap (block r) e, a.behind))
    (λ ne. omega (arith, spot_low r d w s, block_le r b (s / 64) (omega arith)))))

-- ---- what a put leaves alone
put_apart : (x p w v q u : ℕ) → v < 2 ^ w → (p + w ≤ q) ⊎ (q + u ≤ p) → field (put x p w v) q u ≡ field x q u
put_apart x p w v q u h (inl a) = put_above x p w v q u h a
put_apart x p w v q u h (inr a) = put_below x p w v q u a

swap : {A B : Type 0} → A ⊎ B → B ⊎ A
swap (inl p) = inr p
swap (inr p) = inl p

module _ (r d w : ℕ) (a : Area r d w) (x s v : ℕ) (small : v < 2 ^ w) where
  pub cell_same : cell_at r d w (put_cell r d w x s v) s ≡ v
  unfolding cell_at
  cell_same = put_same x (spot r d w s) w v small

  pub cell_other : (t : ℕ) → (s ≡ t → ⊥) → cell_at r d w (put_cell r d w x s v) t ≡ cell_at r d w x t
  unfolding cell_at
  cell_other t ne =
      put_apart x (spot r d w s) w v (spot r d w t) w small
      (by_lt s t (λ l. inl (spot_apart r d w a s t l)) (λ l. inr (spot_apart r d w a t s (omega arith))))

  -- an area before or behind
  pub cell_before : (d' w' : ℕ) → Area r d' w' → d' + 8 * w' ≤ d → (t : ℕ) → cell_at r d' w' (put_cell r d w x s v) t ≡ cell_at r d' w' x t
  unfolding cell_at
  cell_before d' w' a' h t = put_apart x (spot r d w s) w v (spot r d' w' t) w' small (swap (areas_apart r d' w' d w a' a h t s))

  pub cell_behind : (d' w' : ℕ) → Area r d' w' → d + 8 * w ≤ d' → (t : ℕ) → cell_at r d' w' (put_cell r d w x s v) t ≡ cell_at r d' w' x t
  unfolding cell_at
  cell_behind d' w' a' h t = put_apart x (spot r d w s) w v (spot r d' w' t) w' small (areas_apart r d w d' w' a a' h s t)

  pub cell_offset : (b : ℕ) → offset_at r (put_cell r d w x s v) b ≡ offset_at r x b
  unfolding offset_at
  cell_offset b = put_apart x (spot r d w s) w v (8 * block r b) 8 small (swap (offset_apart r d w a b s))

  pub cell_tail : (B : ℕ) → s < 64 * B → tail_at r B (put_cell r d w x s v) ≡ tail_at r B x
  unfolding tail_at
  cell_tail B l = put_above x (spot r d w s) w v (8 * block r B) 64 small (omega (arith, spot_high r d w s, block_le r (s / 64) B (omega arith), a.inside))

module _ (r x b v : ℕ) (small : v < 2 ^ 8) where
  pub offset_same : offset_at r (put x (8 * block r b) 8 v) b ≡ v
  unfolding offset_at
  offset_same = put_same x (8 * block r b) 8 v small

  pub offset_other : (c : ℕ) → (b ≡ c → ⊥) → offset_at r (put x (8 * block r b) 8 v) c ≡ offset_at r x c
  unfolding offset_at
  offset_other c ne =
      put_apart x (8 * block r b) 8 v (8 * block r c) 8 small
      (by_lt b c (λ l. inl (omega (arith, block_le r b c l))) (λ l. inr (omega (arith, block_le r c b (omega arith)))))

  pub offset_cell : (d w : ℕ) → Area r d w → (t : ℕ) → cell_at r d w (put x (8 * block r b) 8 v) t ≡ cell_at r d w x t
  unfolding cell_at
  offset_cell d w a t = put_apart x (8 * block r b) 8 v (spot r d w t) w small (offset_apart r d w a b t)

  pub offset_tail : (B : ℕ) → b < B → tail_at r B (put x (8 * block r b) 8 v) ≡ tail_at r B x
  unfolding tail_at
  offset_tail B l = put_above x (8 * block r b) 8 v (8 * block r B) 64 small (omega (arith, block_le r b B l))

-- ---- the word of an area of bits: the 64 bits of block b from byte d on
unfoldable pub word_at : ℕ → ℕ → ℕ → ℕ → ℕ
word_at r d x b = field x (8 * (block r b + d)) 64

pub word_bit : (r d x b i : ℕ) → i < 64 → field (word_at r d x b) i 1 ≡ cell_at r d 1 x (64 * b + i)
unfolding word_at cell_at spot
word_bit r d x b i l =
    let q : (64 * b + i) / 64 ≡ b = omega arith in
    let k : (64 * b + i) % 64 ≡ i = omega arith in
    field_field x (8 * (block r b + d)) 64 i 1 (omega arith) ∙ rw (q, k, mul-one i)
