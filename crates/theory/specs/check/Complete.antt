-- The image of a holding is accepted by the queue.
-- Assumes nothing.
use Prim.Native.Nat.{ℕ, zero, suc, ◌+◌, ◌-◌, ◌*◌, ◌%◌, ◌≤◌, ◌<◌, min}
use Rattle.std.specs.Prelude.{◌≡◌, ◌⊎◌, List, get_or}
use Rattle.std.proofs.Math.Path.{refl}
use Rattle.std.proofs.Common.{sym, ap, ◌∙◌, inl, inr, zero-add, eq-zero-or-pos, mod-lt, mod-eq_of_lt}
use native.Mathlib.Omega.{arith}
use Rattle.std.proofs.Math.Decide.{ℕ_discrete}
use Rattle.std.proofs.Math.Nat.{add-mod_right}
use Rattle.std.proofs.Math.ListN.{length}
use Rattle.theory.specs.tools.Total.{total, total_same, total_suc, total_zero, total_le}
use Rattle.theory.specs.Holding.{run, Holding}
use Rattle.theory.specs.list.Runs.{runs_total, ascending_at}
use Rattle.theory.specs.Image.{carry, start, occ, Views, run_at, many, rest_at}
use Rattle.theory.specs.carry.Carry.{Round, Free, FirstFree, first_free, start_carry, start_le, start_per, carry_per, free_start, free_slots, cover, per_all}
use Rattle.theory.specs.reading.RunendRank.{last_end, occ_ap, occ_none, rank_start}
use Rattle.theory.specs.reading.RunEnd.{shifted_end, pending, pending_met, count_free}
use Rattle.theory.specs.images.ByViews.{Image, many_round, many_at}
use Rattle.theory.specs.check.Decode.{Decoded, image_decoded}
use Rattle.theory.specs.check.Queue.{owed, busy, ring, wrapped, queue, Accepted, pend_suc, pend_zero, balance, owed_mono, total_round, Reach, dist_reach}

module _ (m R : ℕ) (posR : 0 < R) (l : List ℕ) (v : Views) (h : Holding m R l) (i : Image m R l v) (ends : (s : ℕ) → s < m → v.runend s ≤ 1) where
  abbrev n : ℕ → ℕ
  n = many m R l

  abbrev O : ℕ → ℕ
  O = ring m v.occupied

  abbrev E : ℕ → ℕ
  E = ring m v.runend

  pos_m : 0 < m
  pos_m = omega (arith, h.fewer)

  r : Round m n
  r = many_round m R l posR h

  E-per : (t : ℕ) → E (t + m) ≡ E t
  E-per t = ap v.runend (add-mod_right t m)

  E-one : (t : ℕ) → E t ≤ 1
  E-one t = ends (t % m) (mod-lt t pos_m)

  O-is : (x : ℕ) → O x ≡ occ n x
  O-is = per_all m _ (λ x e. ap v.occupied (add-mod_right x m) ∙ e ∙ sym (occ_ap n (x + m) x (r.per x))) (λ x e. sym (ap v.occupied (add-mod_right x m)) ∙ e ∙ occ_ap n (x + m) x (r.per x)) pos_m 0
      (λ x _ b. let k : x < m = omega arith in ap v.occupied (mod-eq_of_lt k) ∙ i.occupieds x k)

  sum : (x : ℕ) → total O x ≡ total (occ n) x
  sum x = total_same O (occ n) x (λ y _. O-is y)

  -- the runs that are pending before slot 0
  abbrev W : ℕ
  W = total E (start m n 0)

  below : (t : ℕ) → total E t ≤ W + total O t
  below t = omega (arith, pending m n E r E-per i.runends t, sum t)

  ranks : (x : ℕ) → total E (start m n x) ≡ W + total O x
  ranks x = omega (arith, rank_start m n E i.runends x, sum x)

  owed_under : (k : ℕ) → owed O E 0 k ≤ W
  unfolding owed
  owed_under zero = omega arith
  owed_under (suc k) = omega (arith, owed_under k, balance O E 0 k, below (suc k), total_suc E k, total_suc O k)

  is_wrapped : wrapped m v ≡ W
  unfolding wrapped
  is_wrapped =
      let e : z.at + (m - z.at) ≡ m = omega (arith, z.to) in
      omega (arith, owed_under m, rw e at (owed_mono O E 0 z.at (m - z.at)), balance O E 0 z.at, pending_met m n E r E-per i.runends z.at z.free, sum z.at)
    where
      z : FirstFree m n 0
      z = first_free m n r 0

  same : total E m ≡ total O m
  same = omega (arith, ranks m, total_round m E E-per (start m n 0), ap (total E) (sym (ap (start m n) (zero-add m)) ∙ start_per m n r 0))

  bal : (s : ℕ) → queue m v s + total E s ≡ W + total O s
  unfolding queue
  bal zero = omega (arith, pend_zero O E (wrapped m v), is_wrapped, total_zero E, total_zero O)
  bal (suc s) = omega (arith, bal s, pend_suc O E (wrapped m v) s, total_suc E s, total_suc O s, below (suc s))

  free_empty : (s : ℕ) → Free m n s → queue m v s + O s ≡ 0
  free_empty s f = omega (arith, bal s, pending_met m n E r E-per i.runends s f, sum s, O-is s, occ_none n s (omega arith))

  empty_free : (s : ℕ) → queue m v s + O s ≡ 0 → Free m n s
  empty_free s e = count_free m n E r E-per i.runends 0 s (omega (arith, bal s, sum s, sum (suc s), total_suc O s, total_zero (occ n)))

  dec : Decoded m R v (run R l) (start m n)
  dec = image_decoded R posR m l v h i

  up : (s : ℕ) → s < m → 0 < queue m v s + O s → E s ≡ 0 → v.remainder (s % m) ≤ v.remainder (suc s % m)
  unfolding rest_at run_at many
  up s b p e = go (cover m n 0 (suc (s + m)) (s + m) low (omega (arith, start_carry m n (0 + suc (s + m)))))
    where
      z : FirstFree m n 0
      z = first_free m n r 0

      low : start m n 0 ≤ s + m
      low = omega (arith, start_le m n 0 z.at (omega arith), free_start m n z.at z.free, z.to)

      go : ((x : ℕ) × (j : ℕ) × (0 ≤ x) × (x < 0 + suc (s + m)) × (j < n x) × (start m n x + j ≡ s + m)) ⊎ Free m n (s + m) → v.remainder (s % m) ≤ v.remainder (suc s % m)
      go (inr f) = absurd (omega (arith, free_empty s (omega (arith, carry_per m n r s, r.per s))))
      go (inl q) =
          let k : suc q.1 < n q.0 = inner (ℕ_discrete (suc q.1) (n q.0)) in
          let a : v.remainder (s % m) ≡ get_or (run R l (q.0 % m)) q.1 0 = sym (ap v.remainder (ap (λ t. t % m) q.5 ∙ add-mod_right s m)) ∙ i.remainders.used q.0 q.1 q.4 in
          let c : start m n q.0 + suc q.1 ≡ suc s + m = omega (arith, q.5) in
          let a' : v.remainder (suc s % m) ≡ get_or (run R l (q.0 % m)) (suc q.1) 0 = sym (ap v.remainder (ap (λ t. t % m) c ∙ add-mod_right (suc s) m)) ∙ i.remainders.used q.0 (suc q.1) k in
          omega (arith, ascending_at (run R l (q.0 % m)) q.1 (dec.ascending (q.0 % m) (mod-lt q.0 pos_m)) k)
        where
          inner : Dec (suc q.1 ≡ n q.0) → suc q.1 < n q.0
          inner (no f) = omega (arith, q.4)
          inner (yes f) =
              let one : E (start m n q.0 + q.1) ≡ 1 = i.runends.used q.0 q.1 q.4 ∙ last_end n q.0 q.1 f in
              absurd (omega (arith, ap E q.5, E-per s))

  reach : (x : ℕ) → Reach E (W + total O x) x (start m n x)
  reach x = record { low = omega (arith, start_carry m n x); met = ranks x; before = before }
    where
      before : (j : ℕ) → x ≤ j → j < start m n x → total E j < W + total O x
      before j a b =
          let e : suc (start m n x - 1) ≡ start m n x = omega arith in
          omega (arith, ranks x, ap (total E) e, total_suc E (start m n x - 1), shifted_end m n E r E-per i.runends x (omega (arith, start_carry m n x)), total_le E j (start m n x - 1) (omega arith))

  slots_used : total (λ s. busy (queue m v s) (O s)) m ≡ length l
  unfolding busy
  slots_used = omega (arith, each m, free_slots m n r, runs_total R posR l m h.ascending h.under, total_same n (λ x. length (run R l x)) m (many_at m R l))
    where
      one : (s : ℕ) → busy (queue m v s) (O s) + (1 - (carry m n s + n s)) ≡ 1
      one s = go (eq-zero-or-pos (carry m n s + n s)) (eq-zero-or-pos (queue m v s + O s))
        where
          go : (carry m n s + n s ≡ 0) ⊎ (0 < carry m n s + n s) → (queue m v s + O s ≡ 0) ⊎ (0 < queue m v s + O s) → min 1 (queue m v s + O s) + (1 - (carry m n s + n s)) ≡ 1
          go (inl f) d = omega (arith, free_empty s f)
          go (inr f) (inl d) = absurd (omega (arith, empty_free s d))
          go (inr f) (inr d) = omega arith

      each : (k : ℕ) → total (λ s. busy (queue m v s) (O s)) k + total (λ s. 1 - (carry m n s + n s)) k ≡ k
      each zero = omega (arith, total_zero (λ s. busy (queue m v s) (O s)), total_zero (λ s. 1 - (carry m n s + n s)))
      each (suc k) = omega (arith, each k, one k, total_suc (λ s. busy (queue m v s) (O s)) k, total_suc (λ s. 1 - (carry m n s + n s)) k)

  ow : owed O E 0 m ≡ wrapped m v
  unfolding wrapped
  ow = refl

  pub image_accepted : Accepted m v (length l)
  image_accepted = record {
    level = omega (arith, balance O E 0 m, same, ow);
    slots = λ s b. record {
      free_remainder = λ e. i.remainders.free s (empty_free s e);
      free_runend = λ e. i.runends.free s (empty_free s e);
      rising = up s b;
    };
    offsets = λ b k. i.offsets b k ∙ sym (dist_reach E E-one 255 (queue m v (64 * b)) (64 * b) (W + total O (64 * b)) (start m n (64 * b)) (omega (arith, bal (64 * b))) (reach (64 * b)) ∙ ap (λ z. min z 255) (omega (arith, start_carry m n (64 * b))));
    count = slots_used;
  }
