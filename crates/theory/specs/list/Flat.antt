-- Runs, one list of remainders for each quotient, make a holding, and its runs are those again.
-- Assumes nothing.
use Prim.Native.Nat.{ℕ, zero, suc, ◌+◌, ◌*◌, ◌/◌, ◌%◌, ◌≤◌, ◌<◌}
use Rattle.std.specs.Prelude.{◌≡◌, ◌≢◌}
use Rattle.std.proofs.Math.Path.{refl, ap₂}
use Rattle.std.proofs.Common.{sym, ◌∙◌, arith, le_trans}
use mathlib.Core.List.{List, [], ◌∷◌, ◌++◌, map, append-nil}
use Rattle.std.proofs.Math.Decide.{ℕ_discrete}
use Rattle.std.proofs.Math.Arith.{digits_div, digits_mod}
use Rattle.theory.specs.tools.Choose.{choose, choose_yes, choose_no}
use Rattle.theory.specs.Holding.{Least, Under, Ascending, run}
use Rattle.theory.specs.list.Runs.{flat}

pub under_mono : (a b : ℕ) (l : List ℕ) → a ≤ b → Under a l → Under b l
unfolding Under
under_mono a b [] h u = tt
under_mono a b (f ∷ l) h u = (le_trans u.0 h, under_mono a b l h u.1)

under_append : (b : ℕ) (l l' : List ℕ) → Under b l → Under b l' → Under b (l ++ l')
unfolding Under
under_append b [] l' u u' = u'
under_append b (f ∷ l) l' u u' = (u.0, under_append b l l' u.1 u')

least_append : (a : ℕ) (l l' : List ℕ) → Least a l → Least a l' → Least a (l ++ l')
unfolding Least
least_append a [] l' u u' = u'
least_append a (f ∷ l) l' u u' = (u.0, least_append a l l' u.1 u')

least_from : (a b : ℕ) (l : List ℕ) → a ≤ b → Least b l → Least a l
unfolding Least
least_from a b [] h k = tt
least_from a b (f ∷ l) h k = (le_trans h k.0, least_from a b l h k.1)

ascending_append : (s : ℕ) (l l' : List ℕ) → Ascending l → Ascending l' → Under s l → Least s l' → Ascending (l ++ l')
unfolding Ascending Under
ascending_append s [] l' a a' u h = a'
ascending_append s (f ∷ l) l' a a' u h = (least_append f l l' a.0 (least_from f s l' (omega (arith, u.0)) h), ascending_append s l l' a.1 a' u.1 h)

shift_least : (k a : ℕ) (l : List ℕ) → Least a l → Least (k + a) (map (λ r. k + r) l)
unfolding Least
shift_least k a [] h = tt
shift_least k a (f ∷ l) h = (omega (arith, h.0), shift_least k a l h.1)

shift_under : (k b : ℕ) (l : List ℕ) → Under b l → Under (k + b) (map (λ r. k + r) l)
unfolding Under
shift_under k b [] h = tt
shift_under k b (f ∷ l) h = (omega (arith, h.0), shift_under k b l h.1)

shift_ascending : (k : ℕ) (l : List ℕ) → Ascending l → Ascending (map (λ r. k + r) l)
unfolding Ascending
shift_ascending k [] a = tt
shift_ascending k (f ∷ l) a = (shift_least k f l a.0, shift_ascending k l a.1)

all_least : (l : List ℕ) → Least 0 l
unfolding Least
all_least [] = tt
all_least (f ∷ l) = (omega arith, all_least l)

pub run_append : (R : ℕ) (l l' : List ℕ) (x : ℕ) → run R (l ++ l') x ≡ run R l x ++ run R l' x
unfolding run
run_append R [] l' x = refl
run_append R (f ∷ l) l' x = go (ℕ_discrete (f / R) x) (run_append R l l' x)
  where
    go : (d : Dec (f / R ≡ x)) → run R (l ++ l') x ≡ run R l x ++ run R l' x
        → choose d (f % R ∷ run R (l ++ l') x) (run R (l ++ l') x) ≡ choose d (f % R ∷ run R l x) (run R l x) ++ run R l' x
    go (yes e) ih = rw (choose_yes (yes e) (f % R ∷ run R (l ++ l') x) (run R (l ++ l') x) e, choose_yes (yes e) (f % R ∷ run R l x) (run R l x) e, ih)
    go (no e) ih = rw (choose_no (no e) (f % R ∷ run R (l ++ l') x) (run R (l ++ l') x) e, choose_no (no e) (f % R ∷ run R l x) (run R l x) e) ih

module _ (R : ℕ) where
  run_shift : (k : ℕ) (l : List ℕ) → Under R l → run R (map (λ r. k * R + r) l) k ≡ l
  unfolding Under run
  run_shift k [] u = refl
  run_shift k (f ∷ l) u =
      choose_yes (ℕ_discrete ((k * R + f) / R) k) _ _ (digits_div k u.0) ∙ ap₂ ◌∷◌ (digits_mod k u.0) (run_shift k l u.1)

  run_shift_other : (k : ℕ) (l : List ℕ) (x : ℕ) → k ≢ x → Under R l → run R (map (λ r. k * R + r) l) x ≡ []
  unfolding Under run
  run_shift_other k [] x ne u = refl
  run_shift_other k (f ∷ l) x ne u =
      choose_no (ℕ_discrete ((k * R + f) / R) x) _ _ (λ e. ne (sym (digits_div k u.0) ∙ e)) ∙ run_shift_other k l x ne u.1

  module _ (runs : ℕ → List ℕ) where
    pub flat_under : (k : ℕ) → ((x : ℕ) → x < k → Under R (runs x)) → Under (k * R) (flat R runs k)
    unfolding flat Under
    flat_under zero h = tt
    flat_under (suc k) h =
        under_append (suc k * R) (flat R runs k) (map (λ r. k * R + r) (runs k)) (under_mono (k * R) (suc k * R) (flat R runs k) (omega arith) (flat_under k (λ x l. h x (omega arith))))
        (under_mono (k * R + R) (suc k * R) (map (λ r. k * R + r) (runs k)) (omega arith) (shift_under (k * R) R (runs k) (h k (omega arith))))

    pub flat_ascending : (k : ℕ) → ((x : ℕ) → x < k → Under R (runs x)) → ((x : ℕ) → x < k → Ascending (runs x)) → Ascending (flat R runs k)
    unfolding flat Ascending
    flat_ascending zero u h = tt
    flat_ascending (suc k) u h =
        ascending_append (k * R) (flat R runs k) (map (λ r. k * R + r) (runs k)) (flat_ascending k (λ x l. u x (omega arith)) (λ x l. h x (omega arith))) (shift_ascending (k * R) (runs k) (h k (omega arith)))
        (flat_under k (λ x l. u x (omega arith))) (least_from (k * R) (k * R + 0) (map (λ r. k * R + r) (runs k)) (omega arith) (shift_least (k * R) 0 (runs k) (all_least (runs k))))

    pub run_flat_none : (k x : ℕ) → ((y : ℕ) → y < k → Under R (runs y)) → k ≤ x → run R (flat R runs k) x ≡ []
    unfolding flat run
    run_flat_none zero x h l = refl
    run_flat_none (suc k) x h l =
        run_append R (flat R runs k) _ x ∙ rw (run_flat_none k x (λ y b. h y (omega arith)) (omega arith), run_shift_other k (runs k) x (λ e. omega arith) (h k (omega arith)))

    pub run_flat : (k x : ℕ) → ((y : ℕ) → y < k → Under R (runs y)) → x < k → run R (flat R runs k) x ≡ runs x
    unfolding flat
    run_flat zero x h l = absurd (omega arith)
    run_flat (suc k) x h l = run_append R (flat R runs k) _ x ∙ go (ℕ_discrete k x) (λ b. run_flat k x (λ y c. h y (omega arith)) b)
      where
        go : Dec (k ≡ x) → (x < k → run R (flat R runs k) x ≡ runs x) → run R (flat R runs k) x ++ run R (map (λ r. k * R + r) (runs k)) x ≡ runs x
        go (yes e) ih = rw (← e) (rw (run_flat_none k k (λ y b. h y (omega arith)) (omega arith), run_shift k (runs k) (h k (omega arith))))
        go (no e) ih = rw (run_shift_other k (runs k) x e (h k (omega arith)), append-nil) (ih (omega arith))
