-- The width that a capacity needs: it suffices, no smaller one does, and how a walk upwards finds it. Assumes nothing.
use Rattle.std.specs.Prelude.{ℕ, zero, suc, ◌+◌, ◌-◌, ◌≤◌, ◌<◌, ◌≡◌, refl}
use Rattle.std.proofs.Common.{ap, ◌∙◌, arith}
use Rattle.std.proofs.Math.Decide.{dec_le, dec_lt}
use Rattle.theory.specs.tools.Cases.{by_eq}
use Rattle.theory.specs.tools.Choose.{choose_yes, choose_no, choose_by}
use Rattle.theory.specs.Shape.{capacity, slots}
use Rattle.theory.specs.Planning.{largest_capacity, width_from, needed_qbits}

-- number 10's limit is the capacity of 2 ^ 59 slots
pub most_capacity : capacity 59 ≡ largest_capacity
unfolding capacity slots
most_capacity = refl

-- ---- the walk: it stops at a width that suffices, and goes on from one that does not
pub width_here : (k q c : ℕ) → c ≤ capacity q → width_from k q c ≡ q
unfolding width_from
width_here zero q c h = refl
width_here (suc k) q c h = choose_yes (dec_le c (capacity q)) q _ h

pub width_next : (k q c : ℕ) → capacity q < c → width_from (suc k) q c ≡ width_from k (suc q) c
unfolding width_from
width_next k q c h = choose_no (dec_le c (capacity q)) q _ (λ l. omega arith)

-- the same as code meets it: 59 - q widths are left
pub width_step : (q c : ℕ) → q < 59 → capacity q < c → width_from (59 - q) q c ≡ width_from (59 - (q + 1)) (q + 1) c
width_step q c l h =
    let e : 59 - q ≡ suc (59 - (q + 1)) = omega arith in
    let s : suc q ≡ q + 1 = omega arith in
    rw (e, width_next (59 - (q + 1)) q c h, s)

pub width_end : (q c : ℕ) → 59 ≤ q → width_from (59 - q) q c ≡ q
unfolding width_from
width_end q c h =
    let e : 59 - q ≡ 0 = omega arith in
    rw e

-- ---- what it finds
pub width_low : (k q c : ℕ) → q ≤ width_from k q c
unfolding width_from
width_low zero q c = omega arith
width_low (suc k) q c = choose_by (λ z. q ≤ z) (dec_le c (capacity q)) (λ _. omega arith) (λ _. omega (arith, width_low k (suc q) c))

width_high : (k q c : ℕ) → width_from k q c ≤ q + k
unfolding width_from
width_high zero q c = omega arith
width_high (suc k) q c = choose_by (λ z. z ≤ q + suc k) (dec_le c (capacity q)) (λ _. omega arith) (λ _. omega (arith, width_high k (suc q) c))

width_enough : (k q c : ℕ) → c ≤ capacity (q + k) → c ≤ capacity (width_from k q c)
unfolding width_from
width_enough zero q c h =
    let e : q + 0 ≡ q = omega arith in
    rw e at h
width_enough (suc k) q c h =
    let e : q + suc k ≡ suc q + k = omega arith in
    choose_by (λ z. c ≤ capacity z) (dec_le c (capacity q)) (λ l. l) (λ _. width_enough k (suc q) c (rw e at h))

width_least : (k q c p : ℕ) → q ≤ p → p < width_from k q c → capacity p < c
unfolding width_from
width_least zero q c p a = λ (b : p < q). absurd (omega arith)
width_least (suc k) q c p a =
    choose_by (λ z. p < z → capacity p < c) (dec_le c (capacity q)) (λ _ (b : p < q). absurd (omega arith))
    (λ n (b : p < width_from k (suc q) c). by_eq p q (λ e. rw e (omega arith)) (λ e. width_least k (suc q) c p (omega arith) b))

pub needed_low : (c : ℕ) → 6 ≤ needed_qbits c
unfolding needed_qbits
needed_low c = width_low 53 6 c

pub needed_high : (c : ℕ) → needed_qbits c ≤ 59
unfolding needed_qbits
needed_high c = width_high 53 6 c

-- its capacity suffices, and that of no smaller width from 6 on does
pub needed_enough : (c : ℕ) → c ≤ largest_capacity → c ≤ capacity (needed_qbits c)
unfolding needed_qbits
needed_enough c h = width_enough 53 6 c (rw most_capacity h)

pub needed_least : (c p : ℕ) → 6 ≤ p → p < needed_qbits c → capacity p < c
unfolding needed_qbits
needed_least c p a b = width_least 53 6 c p a b

-- a larger capacity needs no smaller width
pub needed_mono : (a b : ℕ) → a ≤ b → b ≤ largest_capacity → needed_qbits a ≤ needed_qbits b
needed_mono a b l h = go (dec_lt (needed_qbits b) (needed_qbits a))
  where
    go : Dec (needed_qbits b < needed_qbits a) → needed_qbits a ≤ needed_qbits b
    go (yes m) = absurd (omega (arith, needed_enough b h, needed_least a (needed_qbits b) (needed_low b) m))
    go (no m) = omega arith

-- ---- the walk up to a last width
-- one that is not past the last has the capacity
pub width_found : (k q c : ℕ) → width_from k q c < q + k → c ≤ capacity (width_from k q c)
unfolding width_from
width_found zero q c = λ h. absurd (omega arith)
width_found (suc k) q c =
    choose_by (λ z. z < q + suc k → c ≤ capacity z) (dec_le c (capacity q)) (λ l _. l) (λ _ h. width_found k (suc q) c (omega arith))

pub width_on : (last q c : ℕ) → q ≤ last → capacity q < c → width_from (last + 1 - q) q c ≡ width_from (last + 1 - (q + 1)) (q + 1) c
width_on last q c h l =
    let e : last + 1 - q ≡ suc (last + 1 - (q + 1)) = omega arith in
    let f : suc q ≡ q + 1 = omega arith in
    ap (λ k. width_from k q c) e ∙ width_next (last + 1 - (q + 1)) q c l ∙ ap (λ z. width_from (last + 1 - (q + 1)) z c) f

pub width_past : (last q c : ℕ) → last < q → width_from (last + 1 - q) q c ≡ q
unfolding width_from
width_past last q c h =
    let e : last + 1 - q ≡ 0 = omega arith in
    ap (λ k. width_from k q c) e
