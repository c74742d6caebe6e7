-- One copy fewer, and one copy more after it. Assumes nothing.
use Rattle.std.specs.Prelude.{ℕ, suc, ◌≤◌, ◌<◌, ◌≡◌, refl, ◌≢◌, List, [], ◌∷◌, length}
use Rattle.std.proofs.Common.{sym, ◌∙◌, arith}
use Rattle.std.proofs.Math.Decide.{ℕ_discrete}
use Rattle.theory.specs.tools.Choose.{choose_by, choose_no, choose, choose_yes}
use Rattle.theory.specs.Holding.{copies, more, fewer, Ascending, Least}
use Rattle.theory.specs.list.Copies.{copies_more_here, copies_tell, copies_more_other, copies_other, copies_nil, copies_eq}
use Rattle.theory.specs.list.More.{more_ascending}

-- taking one copy out and putting it back
fewer_least : (a f : ℕ) (l : List ℕ) → Least a l → Least a (fewer f l)
unfolding Least fewer
fewer_least a f [] h = tt
fewer_least a f (g ∷ l) h = choose_by (Least a) (ℕ_discrete g f) (λ _. h.1) (λ _. (h.0, fewer_least a f l h.1))

pub fewer_ascending : (f : ℕ) (l : List ℕ) → Ascending l → Ascending (fewer f l)
unfolding Ascending fewer
fewer_ascending f [] a = tt
fewer_ascending f (g ∷ l) a = choose_by Ascending (ℕ_discrete g f) (λ _. a.1) (λ _. (fewer_least g f l a.0, fewer_ascending f l a.1))

pub fewer_most : (f : ℕ) (l : List ℕ) → length (fewer f l) ≤ length l
unfolding fewer
fewer_most f [] = omega arith
fewer_most f (g ∷ l) = choose_by (λ (z : List ℕ). length z ≤ suc (length l)) (ℕ_discrete g f) (λ _. omega arith) (λ _. omega (arith, fewer_most f l))

pub fewer_copies_here : (f : ℕ) (l : List ℕ) → 0 < copies f l → suc (copies f (fewer f l)) ≡ copies f l
unfolding fewer
fewer_copies_here f [] p = absurd (omega (arith, copies_nil f))
fewer_copies_here f (g ∷ l) p = go (ℕ_discrete g f) (fewer_copies_here f l)
  where
    go : (d : Dec (g ≡ f)) → (0 < copies f l → suc (copies f (fewer f l)) ≡ copies f l) → suc (copies f (choose d l (g ∷ fewer f l))) ≡ copies f (g ∷ l)
    go (yes z) ih = rw (choose_yes (yes z) l (g ∷ fewer f l) z) (sym (copies_eq f g l z))
    go (no z) ih = rw (choose_no (no z) l (g ∷ fewer f l) z) (omega (arith, copies_other f g (fewer f l) z, copies_other f g l z, ih (omega (arith, copies_other f g l z))))

pub fewer_copies_other : (f x : ℕ) (l : List ℕ) → f ≢ x → copies x (fewer f l) ≡ copies x l
unfolding fewer
fewer_copies_other f x [] ne = refl
fewer_copies_other f x (g ∷ l) ne = go (ℕ_discrete g f) (ℕ_discrete g x) (fewer_copies_other f x l ne)
  where
    go : (d : Dec (g ≡ f)) → Dec (g ≡ x) → copies x (fewer f l) ≡ copies x l → copies x (choose d l (g ∷ fewer f l)) ≡ copies x (g ∷ l)
    go (yes z) d ih = rw (choose_yes (yes z) l (g ∷ fewer f l) z) (sym (copies_other x g l (λ y. ne (sym z ∙ y))))
    go (no z) (yes y) ih = rw (choose_no (no z) l (g ∷ fewer f l) z) (omega (arith, ih, copies_eq x g (fewer f l) y, copies_eq x g l y))
    go (no z) (no y) ih = rw (choose_no (no z) l (g ∷ fewer f l) z) (omega (arith, ih, copies_other x g (fewer f l) y, copies_other x g l y))

pub more_fewer : (f : ℕ) (l : List ℕ) → Ascending l → 0 < copies f l → more f (fewer f l) ≡ l
more_fewer f l a p = copies_tell (more f (fewer f l)) l (more_ascending f (fewer f l) (fewer_ascending f l a)) a (λ x. go x (ℕ_discrete f x))
  where
    go : (x : ℕ) → Dec (f ≡ x) → copies x (more f (fewer f l)) ≡ copies x l
    go x (yes z) = rw (← z) (copies_more_here f (fewer f l) ∙ fewer_copies_here f l p)
    go x (no z) = copies_more_other f x (fewer f l) z ∙ fewer_copies_other f x l z
