-- A buffer that the queue accepts is an image: its reading (ReadBack) passes, from the slot where the runs that go past the last slot end.
-- Assumes nothing.
use Prim.Native.Nat.{ℕ, zero, suc, ◌+◌, ◌-◌, ◌*◌, ◌%◌, ◌≤◌, ◌<◌, max}
use Rattle.std.specs.Prelude.{◌≡◌, ◌⊎◌, List, length}
use Rattle.std.proofs.Common.{sym, ◌∙◌, inl, inr, arith, add-zero, add-suc, suc-add, zero-add, eq-zero-or-pos, mod-lt, mod-eq_of_lt}
use Rattle.std.proofs.Math.Path.{ap}
use Rattle.std.proofs.Math.Decide.{dec_le, dec_lt}
use Rattle.std.proofs.Math.Nat.{add-mod_right}
use Rattle.theory.specs.tools.Choose.{choose}
use Rattle.theory.specs.tools.Total.{total, total_same, total_suc, total_zero, total_le, total_one}
use Rattle.theory.specs.Holding.{Holding}
use Rattle.theory.specs.list.Runs.{flat, length_flat}
use Rattle.theory.specs.Image.{Views}
use Rattle.theory.specs.carry.Carry.{per_all}
use Rattle.theory.specs.images.ByViews.{Image}
use Rattle.theory.specs.check.Queue.{busy, ring, wrapped, queue, Accepted, pend_suc, pend_zero, balance, owed_le, pend_more, total_round, Reach, reach_unique, reach_found, dist_reach}
use Rattle.theory.specs.check.ReadBack.{Bits, Reads, gap, gap_le, gap_before, len, len_some, len_none, pos, pos_zero, pos_suc, size, read, read_length, reads_image}

pub gap_found : (E : ℕ → ℕ) (k p : ℕ) → gap E k p < k → 0 < E (p + gap E k p)
unfolding gap choose
gap_found E zero p l = absurd (omega arith)
gap_found E (suc k) p l = go (dec_le 1 (E p)) l (λ h. gap_found E k (suc p) h)
  where
    go : (d : Dec (1 ≤ E p)) → choose d 0 (suc (gap E k (suc p))) < suc k → (gap E k (suc p) < k → 0 < E (suc p + gap E k (suc p))) → 0 < E (p + choose d 0 (suc (gap E k (suc p))))
    go (yes h) l f = rw (add-zero p) h
    go (no h) l f =
        let e : p + suc (gap E k (suc p)) ≡ suc p + gap E k (suc p) = omega arith in
        rw e (f (omega arith))

total_none : (E : ℕ → ℕ) (s d : ℕ) → ((j : ℕ) → j < d → E (s + j) ≡ 0) → total E (s + d) ≡ total E s
total_none E s zero h = ap (total E) (add-zero s)
total_none E s (suc d) h = rw (add-suc s d) (omega (arith, total_suc E (s + d), h d (omega arith), total_none E s d (λ j l. h j (omega arith))))

module _ (m R : ℕ) (v : Views) (n : ℕ) (bits : Bits m R v) (ends : (s : ℕ) → s < m → v.runend s ≤ 1) (pos_m : 0 < m) (a : Accepted m v n) where
  abbrev O : ℕ → ℕ
  O = ring m v.occupied

  abbrev E : ℕ → ℕ
  E = ring m v.runend

  abbrev w : ℕ
  w = wrapped m v

  abbrev P : ℕ → ℕ
  P = queue m v

  O-per : (t : ℕ) → O (t + m) ≡ O t
  O-per t = ap v.occupied (add-mod_right t m)

  E-per : (t : ℕ) → E (t + m) ≡ E t
  E-per t = ap v.runend (add-mod_right t m)

  E-one : (t : ℕ) → E t ≤ 1
  E-one t = ends (t % m) (mod-lt t pos_m)

  P-suc : (s : ℕ) → P (suc s) ≡ P s + O s - E s
  unfolding queue
  P-suc s = pend_suc O E w s

  P-zero : P 0 ≡ w
  unfolding queue
  P-zero = pend_zero O E w

  P-round : P m ≡ w
  unfolding queue wrapped
  P-round = omega (arith, pend_more O E w m, a.level)

  P-per : (s : ℕ) → P (s + m) ≡ P s
  P-per zero = ap P (zero-add m) ∙ P-round ∙ sym P-zero
  P-per (suc s) = rw suc-add (omega (arith, P-per s, P-suc s, P-suc (s + m), O-per s, E-per s))

  -- the rounds meet as many runends as occupied quotients
  same : total E m ≡ total O m
  unfolding wrapped
  same = omega (arith, balance O E 0 m, a.level)

  no_end : (s : ℕ) → P s + O s ≡ 0 → E s ≡ 0
  no_end = per_all m _ (λ x h e. E-per x ∙ h (omega (arith, P-per x, O-per x))) (λ x h e. sym (E-per x) ∙ h (omega (arith, P-per x, O-per x))) pos_m 0 (λ x _ b e. (a.slots x (omega arith)).free_runend e)

  up : (s : ℕ) → 0 < P s + O s → E s ≡ 0 → v.remainder (s % m) ≤ v.remainder (suc s % m)
  up = per_all m _
      (λ x h p e. rw (add-mod_right x m, ← suc-add x m, add-mod_right (suc x) m) (h (omega (arith, P-per x, O-per x)) (omega (arith, E-per x))))
      (λ x h p e. rw (add-mod_right x m, ← suc-add x m, add-mod_right (suc x) m) at (h (omega (arith, P-per x, O-per x)) (omega (arith, E-per x))))
      pos_m 0 (λ x _ b p e. (a.slots x (omega arith)).rising p e)

  bal : (s : ℕ) → P s + total E s ≡ w + total O s
  bal zero = omega (arith, P-zero, total_zero E, total_zero O)
  bal (suc s) = go (bal s) (eq-zero-or-pos (P s + O s))
    where
      go : P s + total E s ≡ w + total O s → (P s + O s ≡ 0) ⊎ (0 < P s + O s) → P (suc s) + total E (suc s) ≡ w + total O (suc s)
      go ih (inl z) = omega (arith, P-suc s, total_suc E s, total_suc O s, no_end s z)
      go ih (inr h) = omega (arith, P-suc s, total_suc E s, total_suc O s, E-one s)

  pub first : (s : ℕ) × Reach E w 0 s
  unfolding wrapped
  first = reach_found E E-one w m 0 (omega (arith, total_zero E)) (omega (arith, owed_le O E 0 m, ap (total E) (zero-add m)))

  abbrev c : ℕ
  c = first.0

  abbrev g : ℕ → ℕ
  g p = gap E m p

  -- once a quotient is occupied there is a runend within a round
  near : (x p : ℕ) → x < m → 0 < O x → g p < m
  near x p b o = go (dec_lt (g p) m)
    where
      go : Dec (g p < m) → g p < m
      go (yes h) = h
      go (no h) =
          let e : g p ≡ m = omega (arith, gap_le E m p) in
          absurd (omega (arith, total_none E p m (λ j l. gap_before E m p j (omega arith)), total_round m E E-per p, same, total_one O x m b))

  next : (x s : ℕ) → x < m → Reach E (w + total O x) x s → Reach E (w + total O (suc x)) (suc x) (max (suc x) (s + len m v x s))
  next x s b r = go (eq-zero-or-pos (v.occupied x)) (dec_lt x s)
    where
      ox : O x ≡ v.occupied x
      ox = ap v.occupied (mod-eq_of_lt b)

      go : (v.occupied x ≡ 0) ⊎ (0 < v.occupied x) → Dec (x < s) → Reach E (w + total O (suc x)) (suc x) (max (suc x) (s + len m v x s))
      go (inl z) (yes l) =
          let e : max (suc x) (s + len m v x s) ≡ s = omega (arith, len_none m v x s z) in
          let f : w + total O (suc x) ≡ w + total O x = omega (arith, total_suc O x, ox) in
          rw (e, f) (record { low = l; met = r.met; before = λ j k h. r.before j (omega arith) h })
      go (inl z) (no l) =
          let q : s ≡ x = omega (arith, r.low) in
          let e : max (suc x) (s + len m v x s) ≡ suc x = omega (arith, len_none m v x s z) in
          let p : P x ≡ 0 = omega (arith, bal x, r.met, ap (total E) q) in
          rw e (record { low = omega arith; met = omega (arith, total_suc O x, total_suc E x, r.met, ap (total E) q, no_end x (omega (arith, ox)), ox); before = λ j k h. absurd (omega arith) })
      go (inr o) d =
          let e : max (suc x) (s + len m v x s) ≡ suc (s + g s) = omega (arith, len_some m v x s o, r.low) in
          rw e (record { low = omega (arith, r.low); met = omega (arith, total_suc E (s + g s), flat_to (g s) (omega arith), r.met, total_suc O x, E-one (s + g s), gap_found E m s (near x s b (omega (arith, ox))), one); before = λ j k h. under j k h (dec_lt j s) })
        where
          one : O x ≡ 1
          one = omega (arith, bits.occupied x b, ox)

          flat_to : (j : ℕ) → j ≤ g s → total E (s + j) ≡ total E s
          flat_to j l = total_none E s j (λ i k. gap_before E m s i (omega arith))

          under : (j : ℕ) → suc x ≤ j → j < suc (s + g s) → Dec (j < s) → total E j < w + total O (suc x)
          under j k h (yes l) = omega (arith, r.before j (omega arith) l, total_suc O x, one)
          under j k h (no l) =
              let e : s + (j - s) ≡ j = omega arith in
              let f : total E j ≡ total E s = rw e at (flat_to (j - s) (omega arith)) in
              omega (arith, total_suc O x, r.met, one)

  at : (x : ℕ) → x ≤ m → Reach E (w + total O x) x (pos m v c x)
  at zero b = rw (pos_zero m v c) (rw z first.1)
    where
      z : w + total O 0 ≡ w
      z = omega (arith, total_zero O)
  at (suc x) b = rw (pos_suc m v c x) (next x (pos m v c x) b (at x (omega arith)))

  -- nothing is pending before x exactly if the reading stands at x
  level : (x : ℕ) → x ≤ m → pos m v c x ≡ x → P x ≡ 0
  level x b e = omega (arith, bal x, (at x b).met, ap (total E) e)

  stands : (x : ℕ) → x ≤ m → P x ≡ 0 → pos m v c x ≡ x
  stands x b z = go (dec_lt x (pos m v c x))
    where
      go : Dec (x < pos m v c x) → pos m v c x ≡ x
      go (yes l) = absurd (omega (arith, (at x b).before x (omega arith) l, bal x))
      go (no l) = omega (arith, (at x b).low)

  closes : pos m v c m ≡ c + m
  closes = reach_unique E (w + total O m) m (pos m v c m) (c + m) (at m (omega arith)) (record { low = omega arith; met = omega (arith, total_round m E E-per c, first.1.met, same); before = under })
    where
      under : (j : ℕ) → m ≤ j → j < c + m → total E j < w + total O m
      under j k h =
          let e : j - m + m ≡ j = omega arith in
          omega (arith, rw e at (total_round m E E-per (j - m)), first.1.before (j - m) (omega arith) (omega arith), same)

  free_is : (x : ℕ) → x < m → pos m v c x + size m v c x ≡ x → P x + O x ≡ 0
  free_is x b e = go (eq-zero-or-pos (v.occupied x))
    where
      ox : O x ≡ v.occupied x
      ox = ap v.occupied (mod-eq_of_lt b)

      go : (v.occupied x ≡ 0) ⊎ (0 < v.occupied x) → P x + O x ≡ 0
      go (inl z) = omega (arith, ox, level x (omega arith) (omega (arith, len_none m v x (pos m v c x) z)))
      go (inr o) = absurd (omega (arith, len_some m v x (pos m v c x) o, (at x (omega arith)).low))

  -- the slots used are as many as are read
  counted : (x : ℕ) → x ≤ m → pos m v c x + total (λ s. busy (P s) (O s)) x ≡ c + total (size m v c) x + x
  unfolding busy
  counted zero b = omega (arith, pos_zero m v c, total_zero (λ s. busy (P s) (O s)), total_zero (size m v c))
  counted (suc x) b = go (counted x (omega arith)) (eq-zero-or-pos (P x)) (eq-zero-or-pos (v.occupied x))
    where
      ox : O x ≡ v.occupied x
      ox = ap v.occupied (mod-eq_of_lt b)

      go : pos m v c x + total (λ s. busy (P s) (O s)) x ≡ c + total (size m v c) x + x → (P x ≡ 0) ⊎ (0 < P x) → (v.occupied x ≡ 0) ⊎ (0 < v.occupied x) → pos m v c (suc x) + total (λ s. busy (P s) (O s)) (suc x) ≡ c + total (size m v c) (suc x) + suc x
      go ih (inl z) (inl o) = omega (arith, ox, pos_suc m v c x, total_suc (λ s. busy (P s) (O s)) x, total_suc (size m v c) x, len_none m v x (pos m v c x) o, stands x (omega arith) z)
      go ih (inr z) (inl o) = omega (arith, ox, pos_suc m v c x, total_suc (λ s. busy (P s) (O s)) x, total_suc (size m v c) x, len_none m v x (pos m v c x) o, moved)
        where
          moved : x < pos m v c x
          moved = by (dec_lt x (pos m v c x))
            where
              by : Dec (x < pos m v c x) → x < pos m v c x
              by (yes l) = l
              by (no l) = absurd (omega (arith, level x (omega arith) (omega (arith, (at x (omega arith)).low))))
      go ih d (inr o) = omega (arith, ox, pos_suc m v c x, total_suc (λ s. busy (P s) (O s)) x, total_suc (size m v c) x, len_some m v x (pos m v c x) o, (at x (omega arith)).low)

  sizes : total (size m v c) m ≡ n
  sizes = omega (arith, counted m (omega arith), closes, a.count)

  rises : (x : ℕ) → x < m → (j : ℕ) → suc j < size m v c x → v.remainder ((pos m v c x + j) % m) ≤ v.remainder ((pos m v c x + suc j) % m)
  rises x b j l = go (eq-zero-or-pos (v.occupied x))
    where
      ox : O x ≡ v.occupied x
      ox = ap v.occupied (mod-eq_of_lt b)

      go : (v.occupied x ≡ 0) ⊎ (0 < v.occupied x) → v.remainder ((pos m v c x + j) % m) ≤ v.remainder ((pos m v c x + suc j) % m)
      go (inl z) = absurd (omega (arith, len_none m v x (pos m v c x) z))
      go (inr o) = rw (add-suc (pos m v c x) j) (up (pos m v c x + j) busy_there (gap_before E m (pos m v c x) j inside))
        where
          inside : j < g (pos m v c x)
          inside = omega (arith, len_some m v x (pos m v c x) o)

          busy_there : 0 < P (pos m v c x + j) + O (pos m v c x + j)
          busy_there = omega (arith, bal (pos m v c x + j), ox, (at x (omega arith)).met, (at x (omega arith)).low, total_none E (pos m v c x) j (λ i k. gap_before E m (pos m v c x) i (omega (arith, inside))), total_suc O (pos m v c x + j), total_suc O x, total_le O (suc x) (suc (pos m v c x + j)) (omega (arith, (at x (omega arith)).low)))

  pub accepted_reads : n < m → Reads m v first.0
  accepted_reads few = record {
    closes = closes;
    fewer = omega (arith, sizes);
    found = found;
    rising = rises;
    free_remainder = λ x b e. sym (ap v.remainder (mod-eq_of_lt b)) ∙ (a.slots x b).free_remainder (free_is x b e);
    free_runend = λ x b e. sym (ap v.runend (mod-eq_of_lt b)) ∙ (a.slots x b).free_runend (free_is x b e);
    offset = λ b k. a.offsets b k ∙ dist_reach E E-one 255 (P (64 * b)) (64 * b) (w + total O (64 * b)) (pos m v c (64 * b)) (omega (arith, bal (64 * b))) (at (64 * b) (omega arith));
  }
    where
      found : (x : ℕ) → x < m → 0 < size m v c x → v.runend ((pos m v c x + (size m v c x - 1)) % m) ≡ 1
      found x b h = go (eq-zero-or-pos (v.occupied x))
        where
          go : (v.occupied x ≡ 0) ⊎ (0 < v.occupied x) → v.runend ((pos m v c x + (size m v c x - 1)) % m) ≡ 1
          go (inl z) = absurd (omega (arith, len_none m v x (pos m v c x) z))
          go (inr o) =
              let e : size m v c x - 1 ≡ g (pos m v c x) = omega (arith, len_some m v x (pos m v c x) o) in
              let ox : O x ≡ v.occupied x = ap v.occupied (mod-eq_of_lt b) in
              rw e (omega (arith, E-one (pos m v c x + g (pos m v c x)), gap_found E m (pos m v c x) (near x (pos m v c x) b (omega arith))))

  pub accepted_image : 0 < R → n < m → (l : List ℕ) × (length l ≡ n) × Holding m R l × Image m R l v
  accepted_image p few =
      let r = accepted_reads few in
      let i = reads_image m R v c bits r p in
      (flat R (read m R v c bits r) m, length_flat R (read m R v c bits r) m ∙ total_same (λ x. length (read m R v c bits r x)) (size m v c) m (λ x b. read_length m R v c bits r x) ∙ sizes, i.0, i.1)
