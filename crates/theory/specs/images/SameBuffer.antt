-- A buffer is its parts: equal offset bytes, cells and last eight bytes mean equal numbers. Assumes nothing.
use Rattle.std.specs.Prelude.{ℕ, zero, suc, ◌+◌, ◌*◌, ◌/◌, ◌%◌, ◌^◌, ◌<◌, ◌≡◌}
use Rattle.std.proofs.Common.{sym, ◌∙◌, suc-mul, zero-mul, add-zero, arith}
use Rattle.std.proofs.Math.Nat.{mod-one}
use Rattle.theory.specs.number.Field.{fields_step, field}
use Rattle.theory.specs.images.Block.{tail_at, views, block, offset_at, cell_at, spot}
use Rattle.theory.specs.images.ByViews.{Same}

-- n fields of w digits in a row
fields_from : (x y w p n : ℕ) → x % 2 ^ p ≡ y % 2 ^ p → ((i : ℕ) → i < n → field x (p + i * w) w ≡ field y (p + i * w) w)
    → x % 2 ^ (p + n * w) ≡ y % 2 ^ (p + n * w)
fields_from x y w p zero e h = rw (zero-mul w, add-zero p) e
fields_from x y w p (suc n) e h =
    let q : p + suc n * w ≡ w + (p + n * w) = omega (arith, suc-mul n w) in
    rw q (fields_step x y (p + n * w) w (fields_from x y w p n e (λ i l. h i (omega arith))) (h n (omega arith)))

-- the 64 cells of block b in the area of w digits from byte d on
area_same : (r d w b x y : ℕ) → ((s : ℕ) → s / 64 ≡ b → cell_at r d w x s ≡ cell_at r d w y s)
    → x % 2 ^ (8 * (block r b + d)) ≡ y % 2 ^ (8 * (block r b + d)) → x % 2 ^ (8 * (block r b + d) + 64 * w) ≡ y % 2 ^ (8 * (block r b + d) + 64 * w)
unfolding cell_at spot
area_same r d w b x y h e = fields_from x y w (8 * (block r b + d)) 64 e (λ i l. at i l)
  where
    at : (i : ℕ) → i < 64 → field x (8 * (block r b + d) + i * w) w ≡ field y (8 * (block r b + d) + i * w) w
    at i l =
        let q : (64 * b + i) / 64 ≡ b = omega arith in
        let k : (64 * b + i) % 64 ≡ i = omega arith in
        rw (q, k) at (h (64 * b + i) q)

blocks_same : (r x y n : ℕ) → Same (64 * n) (views r x) (views r y) → x % 2 ^ (8 * block r n) ≡ y % 2 ^ (8 * block r n)
unfolding offset_at
blocks_same r x y zero h = rw (zero-mul (17 + 8 * r)) (mod-one x ∙ sym (mod-one y))
blocks_same r x y (suc n) h =
    let p : ℕ = 8 * block r n in
    let a : x % 2 ^ (8 + p) ≡ y % 2 ^ (8 + p) = fields_step x y p 8 (blocks_same r x y n before) (h.offsets n (omega arith)) in
    let a' : 8 + p ≡ 8 * (block r n + 1) = omega arith in
    let o = area_same r 1 1 n x y (λ s e. h.occupieds s (omega arith)) (rw a' at a) in
    let o' : 8 * (block r n + 1) + 64 * 1 ≡ 8 * (block r n + 9) = omega arith in
    let u = area_same r 9 1 n x y (λ s e. h.runends s (omega arith)) (rw o' at o) in
    let u' : 8 * (block r n + 9) + 64 * 1 ≡ 8 * (block r n + 17) = omega arith in
    let d = area_same r 17 r n x y (λ s e. h.remainders s (omega arith)) (rw u' at u) in
    let d' : 8 * (block r n + 17) + 64 * r ≡ 8 * block r (suc n) = omega (arith, suc-mul n (17 + 8 * r)) in
    rw d' at d
  where
    before : Same (64 * n) (views r x) (views r y)
    before = record {
      occupieds = λ s l. h.occupieds s (omega arith);
      runends = λ s l. h.runends s (omega arith);
      remainders = λ s l. h.remainders s (omega arith);
      offsets = λ b l. h.offsets b (omega arith);
    }

pub buffer_same : (r B x y : ℕ) → Same (64 * B) (views r x) (views r y) → tail_at r B x ≡ tail_at r B y
    → x % 2 ^ (64 + 8 * block r B) ≡ y % 2 ^ (64 + 8 * block r B)
unfolding tail_at
buffer_same r B x y h t = fields_step x y (8 * block r B) 64 (blocks_same r x y B h) t
