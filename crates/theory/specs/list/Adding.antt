-- All of a list added to a holding, or only absent ones, once each: multiplicities, order, bounds and lengths. Assumes nothing.
use Rattle.std.specs.Prelude.{ℕ, zero, suc, ◌+◌, ◌≤◌, min, max, ◌≡◌, ◌≢◌, length}
use Rattle.std.proofs.Common.{ap, ◌∙◌, arith}
use mathlib.Core.List.{List, [], ◌∷◌}
use Rattle.std.proofs.Math.Decide.{ℕ_discrete}
use Rattle.theory.specs.Holding.{more, copies}
use Rattle.theory.specs.Changing.{up_to}
use Rattle.theory.specs.list.RuleCases.{up_to_by}
use Rattle.theory.specs.list.Copies.{copies_eq, copies_here, copies_nil, copies_more_here, copies_more_other, copies_other}
use Rattle.theory.specs.list.More.{more_length}
use Rattle.theory.specs.Joining.{added, added_once, joined}

copies_more : (g f : ℕ) (a b : List ℕ) → copies g (more f a) + copies g b ≡ copies g a + copies g (f ∷ b)
copies_more g f a b = go (ℕ_discrete f g)
  where
    go : Dec (f ≡ g) → copies g (more f a) + copies g b ≡ copies g a + copies g (f ∷ b)
    go (yes e) = rw e (omega (arith, copies_more_here g a, copies_here g b))
    go (no e) = omega (arith, copies_more_other f g a e, copies_other g f b e)

-- ---- multiplicities
pub copies_added : (g : ℕ) (a b : List ℕ) → copies g (added a b) ≡ copies g a + copies g b
unfolding added
copies_added g a [] = omega (arith, copies_nil g)
copies_added g a (f ∷ b) = copies_added g (more f a) b ∙ copies_more g f a b

copies_one : (g f : ℕ) (a b : List ℕ) → max (copies g (up_to 1 f a)) (min 1 (copies g b)) ≡ max (copies g a) (min 1 (copies g (f ∷ b)))
copies_one g f a b = go (ℕ_discrete f g)
  where
    here : f ≡ g → max (copies g (up_to 1 f a)) (min 1 (copies g b)) ≡ max (copies g a) (min 1 (copies g (f ∷ b)))
    here e =
        up_to_by (λ z. max (copies g z) (min 1 (copies g b)) ≡ max (copies g a) (min 1 (copies g (f ∷ b)))) 1 f a
        (λ h. omega (arith, copies_eq g f b e, ap (λ z. copies z a) e))
        (λ h. rw e (omega (arith, copies_more_here g a, copies_here g b, ap (λ z. copies z a) e)))

    other : f ≢ g → max (copies g (up_to 1 f a)) (min 1 (copies g b)) ≡ max (copies g a) (min 1 (copies g (f ∷ b)))
    other e =
        up_to_by (λ z. max (copies g z) (min 1 (copies g b)) ≡ max (copies g a) (min 1 (copies g (f ∷ b)))) 1 f a
        (λ h. omega (arith, copies_other g f b e))
        (λ h. omega (arith, copies_more_other f g a e, copies_other g f b e))

    go : Dec (f ≡ g) → max (copies g (up_to 1 f a)) (min 1 (copies g b)) ≡ max (copies g a) (min 1 (copies g (f ∷ b)))
    go (yes e) = here e
    go (no e) = other e

pub copies_once : (g : ℕ) (a b : List ℕ) → copies g (added_once a b) ≡ max (copies g a) (min 1 (copies g b))
unfolding added_once
copies_once g a [] = omega (arith, copies_nil g)
copies_once g a (f ∷ b) = copies_once g (up_to 1 f a) b ∙ copies_one g f a b

-- ---- what holds of lists and stays with one copy more stays with all
module _ (P : List ℕ → Type 0) (Q : List ℕ → Type 0) (tail : (f : ℕ) (b : List ℕ) → Q (f ∷ b) → Q b) (step : (f : ℕ) (a b : List ℕ) → Q (f ∷ b) → P a → P (more f a)) where
  pub added_keeps : (a b : List ℕ) → Q b → P a → P (added a b)
  unfolding added
  added_keeps a [] q p = p
  added_keeps a (f ∷ b) q p = added_keeps (more f a) b (tail f b q) (step f a b q p)

  pub once_keeps : (a b : List ℕ) → Q b → P a → P (added_once a b)
  unfolding added_once
  once_keeps a [] q p = p
  once_keeps a (f ∷ b) q p = once_keeps (up_to 1 f a) b (tail f b q) (up_to_by P 1 f a (λ _. p) (λ _. step f a b q p))

-- ---- lengths
pub added_length : (a b : List ℕ) → length (added a b) ≡ length a + length b
unfolding added
added_length a [] = omega arith
added_length a (f ∷ b) = omega (arith, added_length (more f a) b, more_length f a)

pub once_length : (a b : List ℕ) → (length a ≤ length (added_once a b)) × (length (added_once a b) ≤ length a + length b)
unfolding added_once
once_length a [] = (omega arith, omega arith)
once_length a (f ∷ b) =
    let ih = once_length (up_to 1 f a) b in
    let d : (length a ≤ length (up_to 1 f a)) × (length (up_to 1 f a) ≤ suc (length a)) =
    up_to_by (λ (z : List ℕ). (length a ≤ length z) × (length z ≤ suc (length a))) 1 f a (λ _. (omega arith, omega arith)) (λ _. (omega (arith, more_length f a), omega (arith, more_length f a))) in
    (omega arith, omega arith)

-- ---- both kinds of merge at equal widths
-- copies are added up, or there is one of each
pub copies_kept : (keep g : ℕ) (a b : List ℕ) → copies g (joined (suc keep) a b) ≡ copies g a + copies g b
unfolding joined
copies_kept keep g a b = copies_added g a b

pub copies_single : (g : ℕ) (a b : List ℕ) → copies g (joined zero a b) ≡ min 1 (copies g a + copies g b)
unfolding joined
copies_single g a b = omega (arith, copies_once g (added_once [] a) b, copies_once g [] a, copies_nil g)
