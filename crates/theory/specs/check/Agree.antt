-- What a step of the check looks at, over bytes: buffers that agree on the bytes that a step may look at give the same cursor.
-- Assumes nothing.
use Prim.Native.Nat.{ℕ, suc, ◌+◌, ◌*◌, ◌/◌, ◌%◌, ◌≤◌, ◌<◌}
use Rattle.std.specs.Prelude.{◌≡◌, ◌⊎◌, List, take, drop}
use Rattle.std.proofs.Math.Path.{sym, ap}
use Rattle.std.proofs.Common.{◌∙◌, add-zero}
use native.Mathlib.Omega.{arith}
use Rattle.std.proofs.Math.Nat.{mul-le-mul_right, suc-mul}
use Rattle.theory.specs.number.Bytes.{le_part, le}
use Rattle.theory.specs.number.Field.{field_field, field}
use Rattle.theory.specs.Shape.{blocks}
use Rattle.theory.specs.images.Block.{block, views, offset_at, spot, runends, remainders, Area, occupieds, tail_at, cell_at}
use Rattle.theory.specs.check.Buffer.{steps_on, step_on}
use Rattle.theory.specs.check.Local.{steps_prefix, BlockSame, steps_end, step_local}
use Rattle.theory.specs.check.Step.{begin, Cursor}

-- the bytes of block b, and the last eight
abbrev pub block_bytes : ℕ → ℕ → List ℕ → List ℕ
block_bytes r b s = take (17 + 8 * r) (drop (block r b) s)

abbrev pub tail_bytes : ℕ → ℕ → List ℕ → List ℕ
tail_bytes q r s = take 8 (drop (block r (blocks q)) s)

-- ---- buffers that agree on a block's bytes have the same views of it
module _ (r b x y : ℕ) (e : field x (8 * block r b) (8 * (17 + 8 * r)) ≡ field y (8 * block r b) (8 * (17 + 8 * r))) where
  part : (p u : ℕ) → p + u ≤ 8 * (17 + 8 * r) → field x (8 * block r b + p) u ≡ field y (8 * block r b + p) u
  part p u l =
      sym (field_field x (8 * block r b) (8 * (17 + 8 * r)) p u l) ∙ ap (λ z. field z p u) e ∙ field_field y (8 * block r b) (8 * (17 + 8 * r)) p u l

  cells : (d w : ℕ) → Area r d w → (i : ℕ) → i < 64 → cell_at r d w x (64 * b + i) ≡ cell_at r d w y (64 * b + i)
  unfolding cell_at spot
  cells d w a i l =
      let at : 8 * (block r ((64 * b + i) / 64) + d) + (64 * b + i) % 64 * w ≡ 8 * block r b + (8 * d + i * w) = omega (arith, ap (block r) q, ap (λ z. z * w) k) in
      ap (λ p. field x p w) at ∙ part (8 * d + i * w) w (omega (arith, a.inside, suc-mul i w, mul-le-mul_right {m = suc i} {n = 64} w l)) ∙ sym (ap (λ p. field y p w) at)
    where
      q : (64 * b + i) / 64 ≡ b
      q = omega arith

      k : (64 * b + i) % 64 ≡ i
      k = omega arith

  same_fields : BlockSame (views r x) (views r y) b
  unfolding offset_at
  same_fields = record {
    occupied = cells 1 1 (occupieds r);
    runend = cells 9 1 (runends r);
    remainder = cells 17 r (remainders r);
    offset = ap (λ p. field x p 8) (sym (add-zero (8 * block r b))) ∙ part 0 8 (omega arith) ∙ ap (λ p. field y p 8) (add-zero (8 * block r b));
  }

same_block : (r b : ℕ) (s t : List ℕ) → block_bytes r b s ≡ block_bytes r b t → BlockSame (views r (le s)) (views r (le t)) b
same_block r b s t e = same_fields r b (le s) (le t) (sym (le_part (17 + 8 * r) (block r b) s) ∙ ap le e ∙ le_part (17 + 8 * r) (block r b) t)

same_tail : (q r : ℕ) (s t : List ℕ) → tail_bytes q r s ≡ tail_bytes q r t → tail_at r (blocks q) (le s) ≡ tail_at r (blocks q) (le t)
unfolding tail_at
same_tail q r s t e = sym (le_part 8 (block r (blocks q)) s) ∙ ap le e ∙ le_part 8 (block r (blocks q)) t

-- ---- two buffers with the same numbers
-- if they agree on their first k blocks, they give the same cursor after k
pub bytes_prefix : (q r k : ℕ) (s t : List ℕ) → k ≤ blocks q → ((b : ℕ) → b < k → block_bytes r b s ≡ block_bytes r b t)
    → steps_on q r s k begin ≡ steps_on q r t k begin
bytes_prefix q r k s t l h =
    steps_prefix (blocks q) (views r (le s)) (views r (le t)) (tail_at r (blocks q) (le s)) (tail_at r (blocks q) (le t)) k l (λ b c. same_block r b s t (h b c))

-- if they are equal in the block passed, in the next four, round the end, and in the last eight bytes, a step gives the same cursor from any one
pub bytes_local : (q r : ℕ) (s t : List ℕ) (c : Cursor) → 0 < blocks q
    → ((b : ℕ) → b < blocks q → (c.passed ≡ b) ⊎ (c.passed ≡ blocks q + b) → (d : ℕ) → d < 5 → block_bytes r ((b + d) % blocks q) s ≡ block_bytes r ((b + d) % blocks q) t)
    → tail_bytes q r s ≡ tail_bytes q r t → step_on q r s c ≡ step_on q r t c
bytes_local q r s t c p h e =
    step_local (blocks q) (views r (le s)) (views r (le t)) (tail_at r (blocks q) (le s)) (tail_at r (blocks q) (le t)) c p
    (λ b l w d k. same_block r ((b + d) % blocks q) s t (h b l w d k)) (same_tail q r s t e)

-- nothing moves after two rounds
pub bytes_end : (q r k : ℕ) (s : List ℕ) → steps_on q r s (blocks q + blocks q + k) begin ≡ steps_on q r s (blocks q + blocks q) begin
bytes_end q r k s = steps_end (blocks q) (views r (le s)) (tail_at r (blocks q) (le s)) k
