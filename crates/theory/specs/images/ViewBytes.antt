-- The bytes of views, read back: a buffer is the image of a holding exactly if its views are, and its last eight bytes are zero.
-- Assumes nothing.
use Rattle.std.specs.Prelude.{ℕ, zero, suc, ◌+◌, ◌*◌, ◌/◌, ◌%◌, ◌^◌, ◌≤◌, ◌<◌, ◌≡◌}
use Rattle.std.proofs.Common.{sym, ap, ◌∙◌, arith, suc-mul, mul-le-mul_right, zero-mul, add-zero, length-append}
use mathlib.Core.List.{List, [], ◌++◌, append_assoc, append-nil}
use Rattle.std.proofs.Math.Decide.{ℕ_discrete}
use Rattle.std.proofs.Math.ListN.{length}
use Rattle.theory.specs.number.Bytes.{le, length_to_bytes, Bytes, append_low, append_high, to_bytes, bytes_to_bytes, bytes_append, le_to_bytes}
use Rattle.theory.specs.number.Field.{field}
use Rattle.theory.specs.number.Packed.{packed, packed_lt, packed_field}
use Rattle.theory.specs.Image.{blocks_of, Views, block_of}
use Rattle.theory.specs.images.Block.{block, block_le, cell_at, offset_at, spot, views}
use Rattle.theory.specs.images.ByViews.{Same}

-- views whose values fit their fields
pub record Fitting (r m : ℕ) (v : Views) : Type 0 where
  pub occupied : (s : ℕ) → s < m → v.occupied s < 2
  pub runend : (s : ℕ) → s < m → v.runend s < 2
  pub remainder : (s : ℕ) → s < m → v.remainder s < 2 ^ r
  pub offset : (b : ℕ) → 64 * b < m → v.offset b < 256

pub block_length : (r : ℕ) (v : Views) (b : ℕ) → length (block_of r v b) ≡ 17 + 8 * r
unfolding block_of
block_length r v b = simp (length-append, length_to_bytes) (omega arith)

pub blocks_length : (r : ℕ) (v : Views) (k : ℕ) → length (blocks_of r v k) ≡ block r k
unfolding blocks_of
blocks_length r v zero = sym (zero-mul (17 + 8 * r))
blocks_length r v (suc k) = rw (length-append, blocks_length r v k, block_length r v k) (omega (arith, suc-mul k (17 + 8 * r)))

block_bytes_lem : (r : ℕ) (v : Views) (b : ℕ) → Bytes (block_of r v b)
unfolding block_of
block_bytes_lem r v b =
    bytes_append (to_bytes 1 _) _ (bytes_to_bytes 1 _)
    (bytes_append (to_bytes 8 _) _ (bytes_to_bytes 8 _) (bytes_append (to_bytes 8 _) _ (bytes_to_bytes 8 _) (bytes_to_bytes (8 * r) _)))

pub blocks_bytes : (r : ℕ) (v : Views) (k : ℕ) → Bytes (blocks_of r v k)
unfolding blocks_of
blocks_bytes r v zero i = omega arith
blocks_bytes r v (suc k) i = bytes_append (blocks_of r v k) (block_of r v k) (blocks_bytes r v k) (block_bytes_lem r v k) i

-- a field of block b is one of the whole
in_blocks : (r : ℕ) (v : Views) (t : List ℕ) (k b p w : ℕ) → b < k → p + w ≤ 8 * (17 + 8 * r)
    → field (le (blocks_of r v k ++ t)) (8 * block r b + p) w ≡ field (le (block_of r v b)) p w
unfolding blocks_of
in_blocks r v t zero b p w l h = absurd (omega arith)
in_blocks r v t (suc k) b p w l h = go (ℕ_discrete b k) (λ m. in_blocks r v (block_of r v k) k b p w m h)
  where
    outer : 8 * block r b + p + w ≤ 8 * length (blocks_of r v k ++ block_of r v k) → field (le ((blocks_of r v k ++ block_of r v k) ++ t)) (8 * block r b + p) w ≡ field (le (blocks_of r v k ++ block_of r v k)) (8 * block r b + p) w
    outer e = append_low (blocks_of r v k ++ block_of r v k) t (8 * block r b + p) w e

    size : length (blocks_of r v k ++ block_of r v k) ≡ block r k + (17 + 8 * r)
    size = rw (length-append, blocks_length r v k, block_length r v k)

    go : Dec (b ≡ k) → (b < k → field (le (blocks_of r v k ++ block_of r v k)) (8 * block r b + p) w ≡ field (le (block_of r v b)) p w)
        → field (le ((blocks_of r v k ++ block_of r v k) ++ t)) (8 * block r b + p) w ≡ field (le (block_of r v b)) p w
    go (yes e) ih =
        outer (omega (arith, size, ap (block r) e))
        ∙ rw e (ap (λ z. field (le (blocks_of r v k ++ block_of r v k)) (8 * z + p) w) (sym (blocks_length r v k)) ∙ append_high (blocks_of r v k) (block_of r v k) p w)
    go (no e) ih = outer (omega (arith, size, block_le r b k (omega arith))) ∙ ih (omega arith)

-- 64 packed numbers with bytes before and behind them, read back
area_read : (pre post : List ℕ) (w : ℕ) (f : ℕ → ℕ) → ((i : ℕ) → i < 64 → f i < 2 ^ w) → (i : ℕ) → i < 64
    → field (le (pre ++ (to_bytes (8 * w) (packed w f 64) ++ post))) (8 * length pre + i * w) w ≡ f i
area_read pre post w f h i l =
    let size : 8 * (8 * w) ≡ 64 * w = omega arith in
    let small : packed w f 64 < 2 ^ (8 * (8 * w)) = rw size (packed_lt w f 64 h) in
    append_high pre (to_bytes (8 * w) (packed w f 64) ++ post) (i * w) w
    ∙ append_low (to_bytes (8 * w) (packed w f 64)) post (i * w) w (omega (arith, length_to_bytes (8 * w) (packed w f 64), suc-mul i w, mul-le-mul_right {m = suc i} {n = 64} w l))
    ∙ rw (le_to_bytes (8 * w) (packed w f 64) small) (packed_field w f 64 i h l)

module _ (r m : ℕ) (v : Views) (fit : Fitting r m v) (b : ℕ) (whole : 64 * b + 64 ≤ m) where
  off : List ℕ
  off = to_bytes 1 (v.offset b)

  occs : List ℕ
  occs = to_bytes 8 (packed 1 (λ i. v.occupied (64 * b + i)) 64)

  ends : List ℕ
  ends = to_bytes 8 (packed 1 (λ i. v.runend (64 * b + i)) 64)

  rems : List ℕ
  rems = to_bytes (8 * r) (packed r (λ i. v.remainder (64 * b + i)) 64)

  read_offset : field (le (block_of r v b)) 0 8 ≡ v.offset b
  unfolding block_of field
  read_offset =
      append_low (to_bytes 1 (v.offset b)) _ 0 8 (omega (arith, length_to_bytes 1 (v.offset b)))
      ∙ rw (le_to_bytes 1 (v.offset b) (fit.offset b (omega arith))) (omega (arith, fit.offset b (omega arith)))

  read_occupied : (i : ℕ) → i < 64 → field (le (block_of r v b)) (8 * 1 + i * 1) 1 ≡ v.occupied (64 * b + i)
  unfolding block_of off occs ends rems
  read_occupied i l =
      rw (length_to_bytes 1 (v.offset b)) at (area_read off (ends ++ rems) 1 (λ j. v.occupied (64 * b + j)) (λ j k. fit.occupied (64 * b + j) (omega arith)) i l)

  read_runend : (i : ℕ) → i < 64 → field (le (block_of r v b)) (8 * 9 + i * 1) 1 ≡ v.runend (64 * b + i)
  unfolding block_of off occs ends rems
  read_runend i l =
      let n : length (off ++ occs) ≡ 9 = simp (length-append, length_to_bytes) in
      rw (n, append_assoc off occs (ends ++ rems)) at (area_read (off ++ occs) rems 1 (λ j. v.runend (64 * b + j)) (λ j k. fit.runend (64 * b + j) (omega arith)) i l)

  read_remainder : (i : ℕ) → i < 64 → field (le (block_of r v b)) (8 * 17 + i * r) r ≡ v.remainder (64 * b + i)
  unfolding block_of off occs ends rems
  read_remainder i l =
      let n : length ((off ++ occs) ++ ends) ≡ 17 = simp (length-append, length_to_bytes) in
      let e : ((off ++ occs) ++ ends) ++ (rems ++ []) ≡ off ++ (occs ++ (ends ++ rems)) = simp (append_assoc, append-nil) in
      rw (n, e) at (area_read ((off ++ occs) ++ ends) [] r (λ j. v.remainder (64 * b + j)) (λ j k. fit.remainder (64 * b + j) (omega arith)) i l)

-- the views of the bytes are the views
pub bytes_views : (r : ℕ) (v : Views) (k : ℕ) (t : List ℕ) → Fitting r (64 * k) v → Same (64 * k) (views r (le (blocks_of r v k ++ t))) v
unfolding cell_at offset_at spot
bytes_views r v k t fit = record {
  occupieds = λ s l. at 1 1 s l (omega arith) (omega arith) ∙ read_occupied r (64 * k) v fit (s / 64) (omega arith) (s % 64) (omega arith) ∙ ap v.occupied (slot s);
  runends = λ s l. at 9 1 s l (omega arith) (omega arith) ∙ read_runend r (64 * k) v fit (s / 64) (omega arith) (s % 64) (omega arith) ∙ ap v.runend (slot s);
  remainders = λ s l. at 17 r s l (omega arith) (omega arith) ∙ read_remainder r (64 * k) v fit (s / 64) (omega arith) (s % 64) (omega arith) ∙ ap v.remainder (slot s);
  offsets = λ b l. ap (λ z. field x z 8) (sym (add-zero (8 * block r b))) ∙ in_blocks r v t k b 0 8 (omega arith) (omega arith) ∙ read_offset r (64 * k) v fit b (omega arith);
}
  where
    x : ℕ
    x = le (blocks_of r v k ++ t)

    slot : (s : ℕ) → 64 * (s / 64) + s % 64 ≡ s
    slot s = omega arith

    at : (d w s : ℕ) → s < 64 * k → 1 ≤ d → d + 8 * w ≤ 17 + 8 * r → field x (8 * (block r (s / 64) + d) + s % 64 * w) w ≡ field (le (block_of r v (s / 64))) (8 * d + s % 64 * w) w
    at d w s l a h =
        let e : 8 * (block r (s / 64) + d) + s % 64 * w ≡ 8 * block r (s / 64) + (8 * d + s % 64 * w) = omega arith in
        ap (λ z. field x z w) e ∙ in_blocks r v t k (s / 64) (8 * d + s % 64 * w) w (omega arith) (omega (arith, suc-mul (s % 64) w, mul-le-mul_right {m = suc (s % 64)} {n = 64} w (omega arith)))
