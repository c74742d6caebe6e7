-- The bits of an area round and round, counted by words: what a walk over blocks meets. Assumes nothing.
use Rattle.std.specs.Prelude.{ℕ, suc, ◌+◌, ◌*◌, ◌/◌, ◌%◌, ◌^◌, ◌≤◌, ◌<◌, ◌≡◌}
use Rattle.std.proofs.Common.{sym, ap, ◌∙◌, arith, mul_comm}
use Rattle.std.proofs.Math.Decide.{dec_lt}
use Rattle.std.proofs.Math.Arith.{mod-mul}
use Rattle.theory.specs.tools.Total.{total, total_same, total_add}
use Rattle.theory.specs.number.Count.{rank, rank_suc, rank_shift, rank_all}
use Rattle.theory.specs.number.Field.{field, field_div}
use Rattle.theory.specs.images.Block.{word_bit, cell_at, word_at}

-- bit t of the area from byte d on, where m slots go round
abbrev pub ring_at : ℕ → ℕ → ℕ → ℕ → ℕ → ℕ
ring_at r d m x t = cell_at r d 1 x (t % m)

pub ring_slot : (B k i : ℕ) → 0 < B → i < 64 → (64 * k + i) % (64 * B) ≡ 64 * (k % B) + i
ring_slot B k i p l =
    let q : (64 * k + i) / 64 ≡ k = omega arith in
    let z : (64 * k + i) % 64 ≡ i = omega arith in
    ap (λ y. (64 * k + i) % y) (mul_comm 64 B) ∙ mod-mul (64 * k + i) {m = B} {c = 64} p (omega arith) ∙ omega (arith, ap (λ y. y % B * 64) q, z)

-- the bits of block k, round the end, are those of its word
pub ring_bit : (r d x B k i : ℕ) → 0 < B → i < 64 → ring_at r d (64 * B) x (64 * k + i) ≡ field (word_at r d x (k % B)) i 1
ring_bit r d x B k i p l = ap (cell_at r d 1 x) (ring_slot B k i p l) ∙ sym (word_bit r d x (k % B) i l)

pub ring_rank : (r d x B k j : ℕ) → 0 < B → j ≤ 64
    → total (ring_at r d (64 * B) x) (64 * k + j) ≡ total (ring_at r d (64 * B) x) (64 * k) + rank (word_at r d x (k % B)) j
unfolding rank
ring_rank r d x B k j p l =
    total_add (ring_at r d (64 * B) x) (64 * k) j
    ∙ ap (λ z. total (ring_at r d (64 * B) x) (64 * k) + z) (total_same _ _ j (λ i h. ring_bit r d x B k i p (omega arith)))

-- a walk that looks for F runends below: `left` are still to be passed from digit `skip` of block k on
module _ (r d x m B k skip left F : ℕ) (whole : m ≡ 64 * B) (pos : 0 < B) (l : skip ≤ 64) (so : total (ring_at r d m x) (64 * k + skip) + left ≡ F) where
  here : total (ring_at r d (64 * B) x) (64 * k + skip) + left ≡ F
  here = rw whole at so

  -- none of them is the last in this word: go on behind it
  pub walk_on : (rest : ℕ) → rank (word_at r d x (k % B)) 64 + rest ≡ rank (word_at r d x (k % B)) skip + left → total (ring_at r d m x) (64 * (k + 1) + 0) + rest ≡ F
  walk_on rest e =
      let p : 64 * (k + 1) + 0 ≡ 64 * k + 64 = omega arith in
      rw (whole, p) (omega (arith, here, ring_rank r d x B k 64 pos (omega arith), ring_rank r d x B k skip pos l))

  -- it is digit p of this word
  pub walk_end : (p : ℕ) → p < 64 → rank (word_at r d x (k % B)) p ≡ rank (word_at r d x (k % B)) skip + left → total (ring_at r d m x) (64 * k + p) ≡ F
  walk_end p h e = rw whole (omega (arith, here, ring_rank r d x B k p pos (omega arith), ring_rank r d x B k skip pos l))

  pub walk_bit : (p : ℕ) → p < 64 → field (word_at r d x (k % B)) p 1 ≡ 1 → ring_at r d m x (64 * k + p) ≡ 1
  walk_bit p h e = rw whole (ring_bit r d x B k p pos h ∙ e)

-- a word from digit `skip` on: its n-th one is that of the word shifted down, and so is a miss
pub high_one : (w skip p n : ℕ) → field (w / 2 ^ skip) p 1 ≡ 1 → rank (w / 2 ^ skip) p ≡ n → w < 2 ^ 64 → (skip + p < 64) × (field w (skip + p) 1 ≡ 1) × (rank w (skip + p) ≡ rank w skip + n)
high_one w skip p n one e small = (low (dec_lt (skip + p) 64), bit, omega (arith, rank_shift w skip p))
  where
    bit : field w (skip + p) 1 ≡ 1
    bit = sym (field_div w skip p 1) ∙ one

    low : Dec (skip + p < 64) → skip + p < 64
    low (yes h) = h
    low (no h) = absurd (omega (arith, bit, rank_suc w (skip + p), rank_all w 64 (suc (skip + p)) small (omega arith), rank_all w 64 (skip + p) small (omega arith)))

pub high_none : (w skip k : ℕ) → k ≡ rank (w / 2 ^ skip) 64 → skip ≤ 64 → w < 2 ^ 64 → rank w 64 ≡ rank w skip + k
high_none w skip k e l small =
    let s = rank_shift w skip 64 in
    omega (arith, rank_all w 64 (skip + 64) small (omega arith))
