-- How many copies of a fingerprint are held; the multiplicities tell the holding. Assumes nothing.
use Rattle.std.specs.Prelude.{ℕ, suc, ◌≤◌, ◌<◌, ◌≡◌, refl, ◌≢◌, List, [], ◌∷◌, length}
use Rattle.std.proofs.Common.{sym, ap₂, ◌∙◌, arith}
use Rattle.std.proofs.Math.Decide.{dec_le, dec_lt, ℕ_discrete}
use Rattle.theory.specs.tools.Choose.{choose_by, choose_no, choose_yes}
use Rattle.theory.specs.Holding.{copies, more, Ascending, Least}
use Rattle.theory.specs.list.More.{least_mono}

pub copies_here : (f : ℕ) (l : List ℕ) → copies f (f ∷ l) ≡ suc (copies f l)
unfolding copies
copies_here f l = choose_yes (ℕ_discrete f f) _ _ refl

pub copies_nil : (f : ℕ) → copies f [] ≡ 0
unfolding copies
copies_nil f = refl

pub copies_eq : (f g : ℕ) (l : List ℕ) → g ≡ f → copies f (g ∷ l) ≡ suc (copies f l)
unfolding copies
copies_eq f g l e = choose_yes (ℕ_discrete g f) _ _ e

pub copies_other : (f g : ℕ) (l : List ℕ) → g ≢ f → copies f (g ∷ l) ≡ copies f l
unfolding copies
copies_other f g l ne = choose_no (ℕ_discrete g f) _ _ ne

pub copies_more_here : (f : ℕ) (l : List ℕ) → copies f (more f l) ≡ suc (copies f l)
unfolding more
copies_more_here f [] = copies_here f []
copies_more_here f (g ∷ l) =
    choose_by (λ z. copies f z ≡ suc (copies f (g ∷ l))) (dec_le g f) (λ _. by (copies_more_here f l) (ℕ_discrete g f)) (λ _. copies_here f (g ∷ l))
  where
    by : copies f (more f l) ≡ suc (copies f l) → Dec (g ≡ f) → copies f (g ∷ more f l) ≡ suc (copies f (g ∷ l))
    by ih (yes e) = rw (e, copies_here f (more f l), copies_here f l, ih)
    by ih (no e) = rw (copies_other f g (more f l) e, copies_other f g l e) ih

pub copies_more_other : (f h : ℕ) (l : List ℕ) → f ≢ h → copies h (more f l) ≡ copies h l
unfolding more
copies_more_other f h [] ne = copies_other h f [] ne
copies_more_other f h (g ∷ l) ne =
    choose_by (λ z. copies h z ≡ copies h (g ∷ l)) (dec_le g f) (λ _. by (copies_more_other f h l ne) (ℕ_discrete g h)) (λ _. copies_other h f (g ∷ l) ne)
  where
    by : copies h (more f l) ≡ copies h l → Dec (g ≡ h) → copies h (g ∷ more f l) ≡ copies h (g ∷ l)
    by ih (yes e) = rw (e, copies_here h (more f l), copies_here h l, ih)
    by ih (no e) = rw (copies_other h g (more f l) e, copies_other h g l e) ih

pub copies_least : (f : ℕ) (l : List ℕ) → Least (suc f) l → copies f l ≡ 0
unfolding Least copies
copies_least f [] h = refl
copies_least f (g ∷ l) h = choose_no (ℕ_discrete g f) _ _ (λ e. omega (arith, h.0)) ∙ copies_least f l h.1

-- the multiplicities tell the holding
pub copies_tell : (l l' : List ℕ) → Ascending l → Ascending l' → ((f : ℕ) → copies f l ≡ copies f l') → l ≡ l'
unfolding Ascending Least
copies_tell [] [] a a' h = refl
copies_tell [] (g ∷ l') a a' h = absurd (omega (arith, h g, copies_here g l', copies_least g [] tt))
copies_tell (f ∷ l) [] a a' h = absurd (omega (arith, h f, copies_here f l, copies_least f [] tt))
copies_tell (f ∷ l) (g ∷ l') a a' h = go (copies_tell l l' a.1 a'.1) (dec_lt f g) (dec_lt g f)
  where
    go : (((x : ℕ) → copies x l ≡ copies x l') → l ≡ l') → Dec (f < g) → Dec (g < f) → f ∷ l ≡ g ∷ l'
    go ih (yes b) d = absurd (omega (arith, h f, copies_here f l, copies_least f (g ∷ l') (b, least_mono (suc f) g l' b a'.0)))
    go ih (no b) (yes b') = absurd (omega (arith, h g, copies_here g l', copies_least g (f ∷ l) (b', least_mono (suc g) f l b' a.0)))
    go ih (no b) (no b') = ap₂ ◌∷◌ e (ih (λ x. tails x (ℕ_discrete f x)))
      where
        e : f ≡ g
        e = omega arith

        tails : (x : ℕ) → Dec (f ≡ x) → copies x l ≡ copies x l'
        tails x (yes k) = omega (arith, copies_eq x f l k, copies_eq x g l' (sym e ∙ k), h x)
        tails x (no k) = sym (copies_other x f l k) ∙ h x ∙ copies_other x g l' (λ z. k (e ∙ z))

pub copies_le : (f : ℕ) (l : List ℕ) → copies f l ≤ length l
unfolding copies
copies_le f [] = omega arith
copies_le f (g ∷ l) = choose_by (λ z. z ≤ suc (length l)) (ℕ_discrete g f) (λ _. omega (arith, copies_le f l)) (λ _. omega (arith, copies_le f l))
