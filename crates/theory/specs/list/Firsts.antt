-- How many a merge without duplicates adds, one fingerprint after the other: the first of equal ones, if it is not held yet. Assumes nothing.
use Rattle.std.specs.Prelude.{ℕ, zero, suc, ◌+◌, ◌-◌, ◌≤◌, ◌<◌, min, ◌≡◌, refl, ◌≢◌, List, [], ◌∷◌, map, length, get_or, take}
use Rattle.std.proofs.Common.{ap, ◌∙◌, arith}
use Rattle.std.proofs.Math.Decide.{ℕ_discrete}
use Rattle.std.proofs.Math.Seq.{take-length}
use Rattle.theory.specs.Holding.{copies, Ascending}
use Rattle.theory.specs.Changing.{up_to}
use Rattle.theory.specs.list.RuleCases.{up_to_by}
use Rattle.theory.specs.list.Adding.{copies_once, once_length}
use Rattle.theory.specs.list.Copies.{copies_nil, copies_eq, copies_other}
use Rattle.theory.specs.list.More.{more_length}
use Rattle.theory.specs.list.Runs.{ascending_at}
use Rattle.theory.specs.Joining.{added_once}

-- ---- copies among the first k
pub copies_taken : (f : ℕ) (l : List ℕ) (j k : ℕ) → j < k → j < length l → get_or l j 0 ≡ f → 1 ≤ copies f (take k l)
copies_taken f [] j k a b e = absurd (omega arith)
copies_taken f (g ∷ l) j zero a b e = absurd (omega arith)
copies_taken f (g ∷ l) zero (suc k) a b e = omega (arith, copies_eq f g (take k l) e)
copies_taken f (g ∷ l) (suc j) (suc k) a b e = go (ℕ_discrete g f) (copies_taken f l j k (omega arith) (omega arith) e)
  where
    go : Dec (g ≡ f) → 1 ≤ copies f (take k l) → 1 ≤ copies f (g ∷ take k l)
    go (yes z) h = omega (arith, copies_eq f g (take k l) z)
    go (no z) h = omega (arith, copies_other f g (take k l) z)

pub taken_none : (f : ℕ) (l : List ℕ) (k : ℕ) → ((j : ℕ) → j < k → j < length l → get_or l j 0 ≢ f) → copies f (take k l) ≡ 0
taken_none f [] zero h = copies_nil f
taken_none f [] (suc k) h = copies_nil f
taken_none f (g ∷ l) zero h = copies_nil f
taken_none f (g ∷ l) (suc k) h = copies_other f g (take k l) (h 0 (omega arith) (omega arith)) ∙ taken_none f l k (λ j a b. h (suc j) (omega arith) (omega arith))

-- an ascending list rises from step to step
pub ascending_le : (l : List ℕ) (j n : ℕ) → Ascending l → j + n < length l → get_or l j 0 ≤ get_or l (j + n) 0
ascending_le l j zero a b =
    let e : j + 0 ≡ j = omega arith in
    rw e (omega arith)
ascending_le l j (suc n) a b =
    let e : j + suc n ≡ suc (j + n) = omega arith in
    rw e (omega (arith, ascending_le l j n a (omega arith), ascending_at l (j + n) a (omega arith)))

-- so one that differs from the one before has none equal before it
pub first_new : (l : List ℕ) (k : ℕ) → Ascending l → k < length l → (0 < k → get_or l (k - 1) 0 ≢ get_or l k 0) → copies (get_or l k 0) (take k l) ≡ 0
first_new l k a b ne = taken_none (get_or l k 0) l k (λ j u v e. differs j u e)
  where
    differs : (j : ℕ) → j < k → get_or l j 0 ≡ get_or l k 0 → ⊥
    differs j u e =
        let s : j + (k - 1 - j) ≡ k - 1 = omega arith in
        let p : suc (k - 1) ≡ k = omega arith in
        let low : get_or l j 0 ≤ get_or l (k - 1) 0 = rw s at (ascending_le l j (k - 1 - j) a (omega arith)) in
        let high : get_or l (k - 1) 0 ≤ get_or l k 0 = rw p at (ascending_at l (k - 1) a (omega arith)) in
        ne (omega arith) (omega arith)

-- ---- what is added
one_length : (f : ℕ) (c : List ℕ) → length (up_to 1 f c) ≡ length c + (1 - copies f c)
one_length f c = up_to_by (λ (z : List ℕ). length z ≡ length c + (1 - copies f c)) 1 f c (λ h. omega arith) (λ h. omega (arith, more_length f c))

once_next : (c b : List ℕ) (k : ℕ) → k < length b → added_once c (take (suc k) b) ≡ up_to 1 (get_or b k 0) (added_once c (take k b))
unfolding added_once
once_next c [] k h = absurd (omega arith)
once_next c (g ∷ b) zero h = refl
once_next c (g ∷ b) (suc k) h = once_next (up_to 1 g c) b k (omega arith)

-- one more step: 1 if neither the list nor an earlier one has it
pub once_step : (c b : List ℕ) (k : ℕ) → k < length b
    → length (added_once c (take (suc k) b)) ≡ length (added_once c (take k b)) + (1 - (copies (get_or b k 0) c + copies (get_or b k 0) (take k b)))
once_step c b k h = omega (arith, ap length (once_next c b k h), one_length (get_or b k 0) (added_once c (take k b)), copies_once (get_or b k 0) c (take k b))

pub once_part : (c b : List ℕ) (k : ℕ) → length (added_once c (take k b)) ≤ length (added_once c b)
unfolding added_once
once_part c [] zero = omega arith
once_part c [] (suc k) = omega arith
once_part c (g ∷ b) zero = (once_length c (g ∷ b)).0
once_part c (g ∷ b) (suc k) = once_part (up_to 1 g c) b k

-- it depends on which fingerprints are held, and not on how often
once_like : (c d b : List ℕ) → ((g : ℕ) → min 1 (copies g c) ≡ min 1 (copies g d)) → (k : ℕ) → k ≤ length b
    → length (added_once c (take k b)) + length d ≡ length (added_once d (take k b)) + length c
unfolding added_once
once_like c d b same zero h = omega arith
once_like c d b same (suc k) h =
    omega (arith, once_like c d b same k (omega arith), once_step c b k (omega arith), once_step d b k (omega arith), same (get_or b k 0))

pub once_alike : (c d b : List ℕ) → ((g : ℕ) → min 1 (copies g c) ≡ min 1 (copies g d)) → length (added_once c b) + length d ≡ length (added_once d b) + length c
once_alike c d b same = rw (take-length b) at (once_like c d b same (length b) (omega arith))

-- ---- elements of a list after a function
pub get_d_map : (g : ℕ → ℕ) (l : List ℕ) (k : ℕ) → k < length l → get_or (map g l) k 0 ≡ g (get_or l k 0)
get_d_map g [] k h = absurd (omega arith)
get_d_map g (f ∷ l) zero h = refl
get_d_map g (f ∷ l) (suc k) h = get_d_map g l k (omega arith)
