-- The lowest one of a word at digit i or above: that of the word shifted down. Assumes nothing.
use Rattle.std.specs.Prelude.{ℕ, suc, ◌+◌, ◌-◌, ◌/◌, ◌^◌, ◌≤◌, ◌<◌, ◌≡◌}
use Rattle.std.proofs.Common.{sym, ◌∙◌, arith}
use Rattle.theory.specs.number.Count.{rank, rank_suc, rank_mono, rank_none}
use Rattle.theory.specs.number.Field.{field, field_div}
use Rattle.theory.specs.number.Lowest.{Lowest}
use Rattle.theory.specs.reading.Ring.{high_one}

-- no ones below p
rank_zeros : (y p j : ℕ) → rank y p ≡ 0 → j < p → field y j 1 ≡ 0
rank_zeros y p j e l = omega (arith, rank_suc y j, rank_mono y (suc j) p l)

module _ (x i : ℕ) where
  -- digit j of x from that of x shifted down by i
  digit : (j : ℕ) → i ≤ j → field (x / 2 ^ i) (j - i) 1 ≡ field x j 1
  digit j l =
      let e : i + (j - i) ≡ j = omega arith in
      rw e at (field_div x i (j - i) 1)

  pub from_none : x / 2 ^ i ≡ 0 → (j : ℕ) → i ≤ j → field x j 1 ≡ 0
  from_none e j l = sym (digit j l) ∙ rank_zeros (x / 2 ^ i) (suc (j - i)) (j - i) (rank_none (x / 2 ^ i) (suc (j - i)) e) (omega arith)

  pub from_some : (t : ℕ) → x < 2 ^ 64 → Lowest 64 (x / 2 ^ i) t → (i + t < 64) × (field x (i + t) 1 ≡ 1) × ((j : ℕ) → i ≤ j → j < i + t → field x j 1 ≡ 0)
  from_some t small w =
      let one : field (x / 2 ^ i) t 1 ≡ 1 = omega (arith, rank_suc (x / 2 ^ i) t, w.one, w.none_below) in
      let p = high_one x i t 0 one w.none_below small in
      (p.0, p.1, λ j l b. sym (digit j l) ∙ rank_zeros (x / 2 ^ i) t (j - i) w.none_below (omega arith))
