-- One copy more: the list stays ascending, is longer by one, and only the run of its quotient grows. Assumes nothing.
use Rattle.std.specs.Prelude.{ℕ, zero, suc, ◌*◌, ◌/◌, ◌%◌, ◌≤◌, ◌<◌, ◌≡◌, refl, ◌≢◌, length, get_or}
use Rattle.std.proofs.Math.Path.{sym}
use Rattle.std.proofs.Common.{ap, ◌∙◌, div-add-mod', le_trans}
use mathlib.Core.List.{List, [], ◌∷◌}
use native.Mathlib.Omega.{arith}
use Rattle.std.proofs.Math.Decide.{dec_le, ℕ_discrete}
use Rattle.theory.specs.tools.Choose.{choose_by, choose_no, choose, choose_yes}
use Rattle.theory.specs.Holding.{more, run, Under, Ascending, Least}
use Rattle.theory.specs.list.Runs.{run_here, run_other, run_nil}

pub least_mono : (a b : ℕ) (l : List ℕ) → a ≤ b → Least b l → Least a l
unfolding Least
least_mono a b [] h k = tt
least_mono a b (f ∷ l) h k = (le_trans h k.0, least_mono a b l h k.1)

pub more_least : (a f : ℕ) (l : List ℕ) → a ≤ f → Least a l → Least a (more f l)
unfolding Least more
more_least a f [] h b = (h, tt)
more_least a f (g ∷ l) h b = choose_by (Least a) (dec_le g f) (λ _. (b.0, more_least a f l h b.1)) (λ _. (h, b))

pub more_under : (b f : ℕ) (l : List ℕ) → f < b → Under b l → Under b (more f l)
unfolding Under more
more_under b f [] h u = (h, tt)
more_under b f (g ∷ l) h u = choose_by (Under b) (dec_le g f) (λ _. (u.0, more_under b f l h u.1)) (λ _. (h, u))

pub more_ascending : (f : ℕ) (l : List ℕ) → Ascending l → Ascending (more f l)
unfolding Least Ascending more
more_ascending f [] a = (tt, tt)
more_ascending f (g ∷ l) a =
    choose_by Ascending (dec_le g f) (λ h. (more_least g f l h a.0, more_ascending f l a.1))
    (λ h. ((omega arith, least_mono f g l (omega arith) a.0), a))

pub more_length : (f : ℕ) (l : List ℕ) → length (more f l) ≡ suc (length l)
unfolding more
more_length f [] = refl
more_length f (g ∷ l) = choose_by (λ (z : List ℕ). length z ≡ suc (suc (length l))) (dec_le g f) (λ _. ap suc (more_length f l)) (λ _. refl)

-- where more puts it: behind those that are at most as large
unfoldable pub place : ℕ → List ℕ → ℕ
place f [] = 0
place f (g ∷ l) = choose (dec_le g f) (suc (place f l)) 0

pub place_le : (f : ℕ) (l : List ℕ) → place f l ≤ length l
unfolding place
place_le f [] = omega arith
place_le f (g ∷ l) = choose_by (λ i. i ≤ suc (length l)) (dec_le g f) (λ _. omega (arith, place_le f l)) (λ _. omega arith)

-- the list after more, element by element
pub more_before : (f : ℕ) (l : List ℕ) (j : ℕ) → j < place f l → get_or (more f l) j 0 ≡ get_or l j 0
unfolding place more
more_before f [] j h = absurd (omega arith)
more_before f (g ∷ l) j h = go (dec_le g f) j h (λ i. more_before f l i)
  where
    go : (d : Dec (g ≤ f)) (j : ℕ) → j < choose d (suc (place f l)) 0 → ((i : ℕ) → i < place f l → get_or (more f l) i 0 ≡ get_or l i 0) → get_or (choose d (g ∷ more f l) (f ∷ g ∷ l)) j 0 ≡ get_or (g ∷ l) j 0
    go (yes d) zero h ih = rw (choose_yes (yes d) (g ∷ more f l) (f ∷ g ∷ l) d)
    go (yes d) (suc j) h ih = rw (choose_yes (yes d) (g ∷ more f l) (f ∷ g ∷ l) d) (ih j (omega (arith, rw (choose_yes (yes d) (suc (place f l)) 0 d) at h)))
    go (no d) j h ih = absurd (omega (arith, rw (choose_no (no d) (suc (place f l)) 0 d) at h))

pub more_at : (f : ℕ) (l : List ℕ) → get_or (more f l) (place f l) 0 ≡ f
unfolding place more choose
more_at f [] = refl
more_at f (g ∷ l) = go (dec_le g f) (more_at f l)
  where
    go : (d : Dec (g ≤ f)) → get_or (more f l) (place f l) 0 ≡ f → get_or (choose d (g ∷ more f l) (f ∷ g ∷ l)) (choose d (suc (place f l)) 0) 0 ≡ f
    go (yes d) ih = ih
    go (no d) ih = refl

pub more_after : (f : ℕ) (l : List ℕ) (j : ℕ) → place f l ≤ j → get_or (more f l) (suc j) 0 ≡ get_or l j 0
unfolding place more choose
more_after f [] j h = refl
more_after f (g ∷ l) j h = go (dec_le g f) j h (λ i. more_after f l i)
  where
    go : (d : Dec (g ≤ f)) (j : ℕ) → choose d (suc (place f l)) 0 ≤ j → ((i : ℕ) → place f l ≤ i → get_or (more f l) (suc i) 0 ≡ get_or l i 0) → get_or (choose d (g ∷ more f l) (f ∷ g ∷ l)) (suc j) 0 ≡ get_or (g ∷ l) j 0
    go (yes d) zero h ih = absurd (omega arith)
    go (yes d) (suc j) h ih = ih j (omega arith)
    go (no d) j h ih = refl

pub more_first : (f : ℕ) (l : List ℕ) → Least (suc f) l → more f l ≡ f ∷ l
unfolding more Least
more_first f [] h = refl
more_first f (g ∷ l) h = choose_no (dec_le g f) _ _ (λ k. omega (arith, h.0))

module _ (R : ℕ) (pos : 0 < R) where
  pub run_more_other : (f : ℕ) (l : List ℕ) (x : ℕ) → f / R ≢ x → run R (more f l) x ≡ run R l x
  unfolding more
  run_more_other f [] x ne = run_other R pos f [] x ne
  run_more_other f (g ∷ l) x ne =
      choose_by (λ z. run R z x ≡ run R (g ∷ l) x) (dec_le g f) (λ _. by (run_more_other f l x ne) (ℕ_discrete (g / R) x)) (λ _. run_other R pos f (g ∷ l) x ne)
    where
      by : run R (more f l) x ≡ run R l x → Dec (g / R ≡ x) → run R (g ∷ more f l) x ≡ run R (g ∷ l) x
      by ih (yes e) = rw (run_here R pos g (more f l) x e, run_here R pos g l x e, ih)
      by ih (no e) = rw (run_other R pos g (more f l) x e, run_other R pos g l x e, ih)

  -- of one quotient, the order of the fingerprints is that of the remainders
  rem_le : (f g x : ℕ) → f / R ≡ x → g / R ≡ x → g ≤ f → g % R ≤ f % R
  rem_le f g x e e' h = omega (arith, div-add-mod' f R, div-add-mod' g R, ap (λ z. z * R) e, ap (λ z. z * R) e')

  rem_lt : (f g x : ℕ) → f / R ≡ x → g / R ≡ x → g < f → g % R < f % R
  rem_lt f g x e e' h = omega (arith, div-add-mod' f R, div-add-mod' g R, ap (λ z. z * R) e, ap (λ z. z * R) e')

  run_least : (f : ℕ) (l : List ℕ) (x : ℕ) → f / R ≡ x → Least (suc f) l → Least (suc (f % R)) (run R l x)
  unfolding Least run
  run_least f [] x e h = tt
  run_least f (g ∷ l) x e h =
      choose_by (Least (suc (f % R))) (ℕ_discrete (g / R) x) (λ e'. (rem_lt g f x e' e h.0, run_least f l x e h.1)) (λ _. run_least f l x e h.1)

  pub run_more_here : (f : ℕ) (l : List ℕ) (x : ℕ) → f / R ≡ x → Ascending l → run R (more f l) x ≡ more (f % R) (run R l x)
  unfolding more Ascending Least
  run_more_here f [] x e a =
      let step : f % R ∷ run R [] x ≡ more (f % R) (run R [] x) = rw (run_nil R x) in
      run_here R pos f [] x e ∙ step
  run_more_here f (g ∷ l) x e a =
      choose_by (λ z. run R z x ≡ more (f % R) (run R (g ∷ l) x)) (dec_le g f) (λ h. by h (run_more_here f l x e a.1) (ℕ_discrete (g / R) x))
      (λ h. run_here R pos f (g ∷ l) x e ∙ sym (more_first (f % R) (run R (g ∷ l) x) (run_least f (g ∷ l) x e (omega arith, least_mono (suc f) g l (omega arith) a.0))))
    where
      by : g ≤ f → run R (more f l) x ≡ more (f % R) (run R l x) → Dec (g / R ≡ x) → run R (g ∷ more f l) x ≡ more (f % R) (run R (g ∷ l) x)
      by h ih (yes e') =
          rw (run_here R pos g (more f l) x e', run_here R pos g l x e', ih) (sym (choose_yes (dec_le (g % R) (f % R)) _ _ (rem_le f g x e e' h)))
      by h ih (no e') = rw (run_other R pos g (more f l) x e', run_other R pos g l x e') ih
