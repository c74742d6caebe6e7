-- A check that goes up the slots with a queue: `pend` runs are pending before a slot, an occupied bit adds one, a runend bit takes one away.
-- Assumes nothing.
use Rattle.std.specs.Prelude.{ℕ, zero, suc, ◌+◌, ◌-◌, ◌*◌, ◌%◌, ◌≤◌, ◌<◌, min, ◌≡◌, refl, ◌⊎◌}
use Rattle.std.proofs.Common.{ap, ◌∙◌, inl, inr, arith, add-zero, add-suc, eq-zero-or-pos}
use Rattle.std.proofs.Math.Decide.{dec_le, dec_lt, ℕ_discrete}
use Rattle.theory.specs.tools.Choose.{choose, choose_yes, choose_no}
use Rattle.theory.specs.tools.Total.{total, total_add, total_suc}
use Rattle.theory.specs.Image.{Views}
use Rattle.theory.specs.carry.Carry.{total_window}

-- the runs pending after k slots, if p are pending before the first; O and E are the slots' occupied and runend bits
unfoldable pub pend : (ℕ → ℕ) → (ℕ → ℕ) → ℕ → ℕ → ℕ
pend O E p zero = p
pend O E p (suc k) = pend O E p k + O k - E k

-- the runends met in k slots while nothing was pending
unfoldable pub owed : (ℕ → ℕ) → (ℕ → ℕ) → ℕ → ℕ → ℕ
owed O E p zero = 0
owed O E p (suc k) = owed O E p k + (E k - (pend O E p k + O k))

-- how many slots from t on until p runends are met; k if they are not met in k slots
unfoldable pub dist : (ℕ → ℕ) → ℕ → ℕ → ℕ → ℕ
dist E zero p t = 0
dist E (suc k) p t = choose (dec_le 1 p) (suc (dist E k (p - E t) (suc t))) 0

-- 1 if a slot is used, with p pending before it and the occupied bit o
unfoldable pub busy : ℕ → ℕ → ℕ
busy p o = min 1 (p + o)

-- the slots round and round
abbrev pub ring : ℕ → (ℕ → ℕ) → ℕ → ℕ
ring m f t = f (t % m)

-- what is tested of a slot: p pending before it, its bits o and e, its remainder r and that of the next slot
pub record Slot (p o e r r' : ℕ) : Type 0 where
  pub free_remainder : p + o ≡ 0 → r ≡ 0
  pub free_runend : p + o ≡ 0 → e ≡ 0
  pub rising : 0 < p + o → e ≡ 0 → r ≤ r'

-- the runs that go past the last slot, as the first round counts them; those pending before a slot in the second round
unfoldable pub wrapped : ℕ → Views → ℕ
wrapped m v = owed (ring m v.occupied) (ring m v.runend) 0 m

unfoldable pub queue : ℕ → Views → ℕ → ℕ
queue m v s = pend (ring m v.occupied) (ring m v.runend) (wrapped m v) s

pub record Accepted (m : ℕ) (v : Views) (n : ℕ) : Type 0 where
  pub level : pend (ring m v.occupied) (ring m v.runend) 0 m ≡ wrapped m v
  pub slots : (s : ℕ) → s < m → Slot (queue m v s) (v.occupied (s % m)) (v.runend (s % m)) (v.remainder (s % m)) (v.remainder (suc s % m))
  pub offsets : (b : ℕ) → 64 * b < m → v.offset b ≡ dist (ring m v.runend) 255 (queue m v (64 * b)) (64 * b)
  pub count : total (λ s. busy (queue m v s) (v.occupied (s % m))) m ≡ n

pub pend_suc : (O E : ℕ → ℕ) (p k : ℕ) → pend O E p (suc k) ≡ pend O E p k + O k - E k
unfolding pend
pend_suc O E p k = refl

pub pend_zero : (O E : ℕ → ℕ) (p : ℕ) → pend O E p 0 ≡ p
unfolding pend
pend_zero O E p = refl

pub balance : (O E : ℕ → ℕ) (p k : ℕ) → pend O E p k + total E k ≡ p + total O k + owed O E p k
unfolding pend owed total
balance O E p zero = omega arith
balance O E p (suc k) = omega (arith, balance O E p k)

pub owed_le : (O E : ℕ → ℕ) (p k : ℕ) → owed O E p k ≤ total E k
unfolding owed total
owed_le O E p zero = omega arith
owed_le O E p (suc k) = omega (arith, owed_le O E p k)

pub owed_mono : (O E : ℕ → ℕ) (p y k : ℕ) → owed O E p y ≤ owed O E p (y + k)
unfolding owed
owed_mono O E p y zero = rw add-zero (omega arith)
owed_mono O E p y (suc k) = rw (add-suc y k) (omega (arith, owed_mono O E p y k))

-- w more before the first slot: those that were not owed are still pending
pub pend_more : (O E : ℕ → ℕ) (w k : ℕ) → pend O E w k ≡ pend O E 0 k + (w - owed O E 0 k)
unfolding pend owed
pend_more O E w zero = omega arith
pend_more O E w (suc k) = omega (arith, pend_more O E w k)

pub pend_add : (O E : ℕ → ℕ) (p y k : ℕ) → pend O E p (y + k) ≡ pend (λ i. O (y + i)) (λ i. E (y + i)) (pend O E p y) k
unfolding pend
pend_add O E p y zero = rw add-zero
pend_add O E p y (suc k) = rw (add-suc, pend_add O E p y k)

pub owed_add : (O E : ℕ → ℕ) (p y k : ℕ) → owed O E p (y + k) ≡ owed O E p y + owed (λ i. O (y + i)) (λ i. E (y + i)) (pend O E p y) k
unfolding owed
owed_add O E p y zero = simp add-zero
owed_add O E p y (suc k) = rw (add-suc y k) (omega (arith, owed_add O E p y k, pend_add O E p y k))

pub pend_same : (O E O' E' : ℕ → ℕ) (p k : ℕ) → ((i : ℕ) → i < k → O i ≡ O' i) → ((i : ℕ) → i < k → E i ≡ E' i) → pend O E p k ≡ pend O' E' p k
unfolding pend
pend_same O E O' E' p zero f g = refl
pend_same O E O' E' p (suc k) f g = omega (arith, pend_same O E O' E' p k (λ i l. f i (omega arith)) (λ i l. g i (omega arith)), f k (omega arith), g k (omega arith))

pub owed_same : (O E O' E' : ℕ → ℕ) (p k : ℕ) → ((i : ℕ) → i < k → O i ≡ O' i) → ((i : ℕ) → i < k → E i ≡ E' i) → owed O E p k ≡ owed O' E' p k
unfolding owed
owed_same O E O' E' p zero f g = refl
owed_same O E O' E' p (suc k) f g =
    omega (arith, owed_same O E O' E' p k (λ i l. f i (omega arith)) (λ i l. g i (omega arith)), pend_same O E O' E' p k (λ i l. f i (omega arith)) (λ i l. g i (omega arith)), f k (omega arith), g k (omega arith))

pub dist_same : (E E' : ℕ → ℕ) (k p t : ℕ) → ((s : ℕ) → t ≤ s → s < t + k → E s ≡ E' s) → dist E k p t ≡ dist E' k p t
unfolding dist
dist_same E E' zero p t h = refl
dist_same E E' (suc k) p t h = rw (h t (omega arith) (omega arith)) (ap (λ z. choose (dec_le 1 p) (suc z) 0) (dist_same E E' k (p - E' t) (suc t) (λ s a b. h s (omega arith) (omega arith))))

-- a total over a round that repeats
pub total_round : (m : ℕ) (E : ℕ → ℕ) → ((t : ℕ) → E (t + m) ≡ E t) → (s : ℕ) → total E (s + m) ≡ total E s + total E m
total_round m E per s = omega (arith, total_add E s m, total_window m E per s)

-- s is the first slot, from x on, below which F runends stand
pub record Reach (E : ℕ → ℕ) (F x s : ℕ) : Type 0 where
  pub low : x ≤ s
  pub met : total E s ≡ F
  pub before : (j : ℕ) → x ≤ j → j < s → total E j < F

pub reach_unique : (E : ℕ → ℕ) (F x s s' : ℕ) → Reach E F x s → Reach E F x s' → s ≡ s'
reach_unique E F x s s' a b = go (dec_lt s s') (dec_lt s' s)
  where
    go : Dec (s < s') → Dec (s' < s) → s ≡ s'
    go (yes l) d = absurd (omega (arith, a.met, b.before s a.low l))
    go (no l) (yes l') = absurd (omega (arith, b.met, a.before s' b.low l'))
    go (no l) (no l') = omega arith

pub reach_found : (E : ℕ → ℕ) → ((t : ℕ) → E t ≤ 1) → (F k t : ℕ) → total E t ≤ F → F ≤ total E (t + k) → (s : ℕ) × Reach E F t s
reach_found E one F zero t a b = (t, record { low = omega arith; met = omega (arith, ap (total E) (add-zero t)); before = λ j c d. absurd (omega arith) })
reach_found E one F (suc i) t a b = go (ℕ_discrete (total E t) F) (λ l h. reach_found E one F i (suc t) l h)
  where
    n : t + suc i ≡ suc t + i
    n = omega arith

    go : Dec (total E t ≡ F) → (total E (suc t) ≤ F → F ≤ total E (suc t + i) → (s : ℕ) × Reach E F (suc t) s) → (s : ℕ) × Reach E F t s
    go (yes e) f = (t, record { low = omega arith; met = e; before = λ j c d. absurd (omega arith) })
    go (no e) f = on (f (omega (arith, total_suc E t, one t)) (rw n at b))
      where
        on : ((s : ℕ) × Reach E F (suc t) s) → (s : ℕ) × Reach E F t s
        on p = (p.0, record { low = omega (arith, p.1.low); met = p.1.met; before = λ j c d. at j c d (ℕ_discrete j t) })
          where
            at : (j : ℕ) → t ≤ j → j < p.0 → Dec (j ≡ t) → total E j < F
            at j c d (yes z) = rw z (omega arith)
            at j c d (no z) = p.1.before j (omega arith) d

pub dist_reach : (E : ℕ → ℕ) → ((t : ℕ) → E t ≤ 1) → (k p t F s : ℕ) → F ≡ total E t + p → Reach E F t s → dist E k p t ≡ min (s - t) k
unfolding dist
dist_reach E one zero p t F s e r = omega arith
dist_reach E one (suc k) p t F s e r = go (eq-zero-or-pos p) (dec_lt t s) (λ a b. dist_reach E one k (p - E t) (suc t) F s a b)
  where
    go : (p ≡ 0) ⊎ (0 < p) → Dec (t < s) → (F ≡ total E (suc t) + (p - E t) → Reach E F (suc t) s → dist E k (p - E t) (suc t) ≡ min (s - suc t) k)
        → choose (dec_le 1 p) (suc (dist E k (p - E t) (suc t))) 0 ≡ min (s - t) (suc k)
    go (inl z) (yes l) f = absurd (omega (arith, r.before t (omega arith) l))
    go (inl z) (no l) f = choose_no (dec_le 1 p) _ _ (λ h. omega arith) ∙ omega (arith, r.low)
    go (inr h) (no l) f =
        let q : s ≡ t = omega (arith, r.low) in
        absurd (omega (arith, r.met, ap (total E) q))
    go (inr h) (yes l) f =
        choose_yes (dec_le 1 p) _ _ h
        ∙ omega (arith, f (omega (arith, total_suc E t, one t)) (record { low = l; met = r.met; before = λ j a b. r.before j (omega arith) b }))
