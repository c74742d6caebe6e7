-- Where a run ends, told from a block's offset: the occupied bits up to the quotient and the runends from the offset on. Assumes nothing.
use Rattle.std.specs.Prelude.{ℕ, suc, ◌+◌, ◌-◌, ◌*◌, ◌%◌, ◌≤◌, ◌<◌, max, ◌≡◌, List}
use Rattle.std.proofs.Math.Path.{sym, ap}
use Rattle.std.proofs.Common.{◌∙◌, arith}
use Rattle.std.proofs.Math.Nat.{add-mod_right}
use Rattle.theory.specs.tools.Total.{total_same, total, total_le, total_add}
use Rattle.theory.specs.number.Count.{rank}
use Rattle.theory.specs.Holding.{Holding}
use Rattle.theory.specs.Image.{last, carry, occ, start, Views, many}
use Rattle.theory.specs.carry.Carry.{start_carry, Round, start_per}
use Rattle.theory.specs.images.Block.{cell_at, views, word_bit, word_at}
use Rattle.theory.specs.images.Filled.{Filled}
use Rattle.theory.specs.reading.RunendRank.{rank_start}
use Rattle.theory.specs.reading.Ring.{ring_at}
use Rattle.theory.specs.reading.RunEnd.{run_end_none, run_end_some}
use Rattle.theory.specs.images.ByViews.{many_round, Image}

-- the occupied and runend bits are those of counts n: what a walk over runs goes by, whatever stands in the offset bytes
pub record Runs (m : ℕ) (n : ℕ → ℕ) (v : Views) : Type 0 where
  pub round : Round m n
  pub occupieds : (x : ℕ) → x < m → v.occupied x ≡ occ n x
  pub runends : Filled m n (last n) (λ t. v.runend (t % m))

pub image_runs : (m R : ℕ) (l : List ℕ) (v : Views) → 0 < R → Holding m R l → Image m R l v → Runs m (many m R l) v
image_runs m R l v p h i = record { round = many_round m R l p h; occupieds = i.occupieds; runends = i.runends }

module _ (r x m B : ℕ) (whole : m ≡ 64 * B) (n : ℕ → ℕ) (w : Runs m n (views r x)) where
  abbrev E : ℕ → ℕ
  E = ring_at r 9 m x

  per : (t : ℕ) → E (t + m) ≡ E t
  per t = ap (cell_at r 9 1 x) (add-mod_right t m)

  -- the occupied quotients of block b up to its i-th
  pub occupied_count : (b i : ℕ) → b < B → i ≤ 64 → total (occ n) (64 * b + i) ≡ total (occ n) (64 * b) + rank (word_at r 1 x b) i
  unfolding rank
  occupied_count b i l h =
      total_add (occ n) (64 * b) i
      ∙ ap (λ z. total (occ n) (64 * b) + z) (total_same _ _ i (λ j k. sym (word_bit r 1 x b j (omega arith) ∙ w.occupieds (64 * b + j) (omega arith))))

  module _ (b i o k : ℕ) (l : b < B) (h : i < 64) (eo : o ≡ carry m n (64 * b)) (ek : k ≡ rank (word_at r 1 x b) (i + 1)) where
    count : total (occ n) (suc (64 * b + i)) ≡ total (occ n) (64 * b) + k
    count =
        let e : 64 * b + (i + 1) ≡ suc (64 * b + i) = omega arith in
        rw (e, ← ek) at (occupied_count b (i + 1) l (omega arith))

    begin : start m n (64 * b) ≡ 64 * b + o
    begin = start_carry m n (64 * b) ∙ ap (λ z. 64 * b + z) (sym eo)

    pub behind_none : k ≡ 0 → start m n (suc (64 * b + i)) ≡ max (suc (64 * b + i)) (64 * b + o)
    behind_none z =
        run_end_none m n E w.round per w.runends (64 * b) (64 * b + i) (omega arith) (omega (arith, count)) ∙ ap (max (suc (64 * b + i))) begin

    pub behind_some : (p : ℕ) → 0 < k → E p ≡ 1 → total E p ≡ total E (64 * b + o) + (k - 1) → start m n (suc (64 * b + i)) ≡ max (suc (64 * b + i)) (suc p)
    behind_some p z one e =
        run_end_some m n E w.round per w.runends (64 * b) (64 * b + i) p (omega arith)
        (omega (arith, count, ap (total E) begin)) (omega (arith, count, ap (total E) begin))

    -- and such a runend is met within a round
    pub behind_found : total E (64 * b + o + m) ≤ total E (64 * b + o) + (k - 1) → 0 < k → ⊥
    behind_found few z =
        let turn : start m n (64 * b + m) ≡ 64 * b + o + m = start_per m n w.round (64 * b) ∙ ap (λ y. y + m) begin in
        omega (
          arith,
          count,
          rank_start m n E w.runends (64 * b),
          rank_start m n E w.runends (64 * b + m),
          ap (total E) turn,
          ap (total E) begin,
          total_le (occ n) (suc (64 * b + i)) (64 * b + m) (omega arith),
        )
