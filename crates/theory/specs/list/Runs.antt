-- A holding is its runs, one after the other. Assumes nothing.
use Prim.Native.Nat.{ℕ, zero, suc, ◌+◌, ◌-◌, ◌*◌, ◌/◌, ◌%◌, ◌≤◌, ◌<◌}
use Rattle.std.specs.Prelude.{◌≡◌, ◌≢◌, length, get_or}
use Rattle.std.proofs.Math.Path.{refl, ap}
use Rattle.std.proofs.Common.{sym, ◌∙◌, add-zero, add-suc, le-div_iff_mul-le, div-lt_iff_lt-mul, mod-lt, le_refl, length-append}
use mathlib.Core.List.{List, [], ◌∷◌, ◌++◌, map}
use native.Mathlib.Omega.{arith}
use Rattle.std.proofs.Math.Decide.{ℕ_discrete}
use Rattle.std.proofs.Math.Nat.{div-add-mod'}
use Rattle.std.proofs.lemmas.List.{length-map}
use Rattle.theory.specs.tools.Choose.{choose_no, choose_yes, choose_by}
use Rattle.theory.specs.tools.Total.{total}
use Rattle.theory.specs.Holding.{run, Under, Ascending, Least}

-- the fingerprints of the quotients below k, by runs
unfoldable pub flat : ℕ → (ℕ → List ℕ) → ℕ → List ℕ
flat R runs zero = []
flat R runs (suc k) = flat R runs k ++ map (λ r. k * R + r) (runs k)

pub flat_same : (R : ℕ) (runs runs' : ℕ → List ℕ) (k : ℕ) → ((x : ℕ) → x < k → runs x ≡ runs' x) → flat R runs k ≡ flat R runs' k
unfolding flat
flat_same R runs runs' zero h = refl
flat_same R runs runs' (suc k) h = rw (flat_same R runs runs' k (λ x l. h x (omega arith)), h k (omega arith))

pub length_flat : (R : ℕ) (runs : ℕ → List ℕ) (k : ℕ) → length (flat R runs k) ≡ total (λ x. length (runs x)) k
unfolding flat total
length_flat R runs zero = refl
length_flat R runs (suc k) = rw (length-append, length-map, length_flat R runs k)

pub run_nil : (R x : ℕ) → run R [] x ≡ []
unfolding run
run_nil R x = refl

module _ (R : ℕ) (pos : 0 < R) where
  pub run_here : (f : ℕ) (l : List ℕ) (x : ℕ) → f / R ≡ x → run R (f ∷ l) x ≡ f % R ∷ run R l x
  unfolding run
  run_here f l x e = choose_yes (ℕ_discrete (f / R) x) _ _ e

  pub run_other : (f : ℕ) (l : List ℕ) (x : ℕ) → f / R ≢ x → run R (f ∷ l) x ≡ run R l x
  unfolding run
  run_other f l x e = choose_no (ℕ_discrete (f / R) x) _ _ e

  -- no run of a quotient below that of the least
  run_none : (a : ℕ) (l : List ℕ) (x : ℕ) → Least a l → x < a / R → run R l x ≡ []
  unfolding Least run
  run_none a [] x h b = refl
  run_none a (f ∷ l) x h b =
      let c : suc x ≤ f / R = (le-div_iff_mul-le pos).1 (omega (arith, h.0, (le-div_iff_mul-le {k = R} {x = suc x} {y = a} pos).0 b)) in
      choose_no (ℕ_discrete (f / R) x) _ _ (λ e. omega arith) ∙ run_none a l x h.1 b

  flat_none : (a : ℕ) (l : List ℕ) (k : ℕ) → Least a l → k ≤ a / R → flat R (run R l) k ≡ []
  unfolding flat
  flat_none a l zero h b = refl
  flat_none a l (suc k) h b = rw (flat_none a l k h (omega arith), run_none a l k h b)

  flat_nil : (k : ℕ) → flat R (run R []) k ≡ []
  unfolding flat run
  flat_nil zero = refl
  flat_nil (suc k) = rw (flat_nil k)

  flat_cons : (f : ℕ) (l : List ℕ) (d : ℕ) → Least f l → flat R (run R (f ∷ l)) (suc (f / R) + d) ≡ f ∷ flat R (run R l) (suc (f / R) + d)
  unfolding flat Least
  flat_cons f l zero h =
      rw (add-zero, flat_none f (f ∷ l) (f / R) (le_refl f, h) (omega arith), flat_none f l (f / R) h (omega arith), run_here f l (f / R) refl) (ap (λ z. z ∷ map (λ r. f / R * R + r) (run R l (f / R))) (div-add-mod' f R))
  flat_cons f l (suc d) h = rw (add-suc (suc (f / R)) d, flat_cons f l d h, run_other f l (suc (f / R) + d) (λ e. omega arith))

  -- the listing: a holding is its runs, one after the other
  pub listing : (l : List ℕ) (k : ℕ) → Ascending l → Under (k * R) l → flat R (run R l) k ≡ l
  unfolding Ascending Under
  listing [] k a u = flat_nil k
  listing (f ∷ l) k a u =
      let b : f / R < k = (div-lt_iff_lt-mul pos).1 u.0 in
      let e : suc (f / R) + (k - suc (f / R)) ≡ k = omega arith in
      (rw e at (flat_cons f l (k - suc (f / R)) a.0)) ∙ ap (λ z. f ∷ z) (listing l k a.1 u.1)

  pub same_runs : (l l' : List ℕ) (k : ℕ) → Ascending l → Under (k * R) l → Ascending l' → Under (k * R) l' → ((x : ℕ) → x < k → run R l x ≡ run R l' x) → l ≡ l'
  same_runs l l' k a u a' u' h = sym (listing l k a u) ∙ flat_same R (run R l) (run R l') k h ∙ listing l' k a' u'

  pub runs_total : (l : List ℕ) (k : ℕ) → Ascending l → Under (k * R) l → total (λ x. length (run R l x)) k ≡ length l
  runs_total l k a u = sym (length_flat R (run R l) k) ∙ ap length (listing l k a u)

pub least_at : (a : ℕ) (l : List ℕ) (j : ℕ) → Least a l → j < length l → a ≤ get_or l j 0
unfolding Least
least_at a [] j h b = absurd (omega arith)
least_at a (f ∷ l) zero h b = h.0
least_at a (f ∷ l) (suc j) h b = least_at a l j h.1 (omega arith)

pub ascending_at : (l : List ℕ) (j : ℕ) → Ascending l → suc j < length l → get_or l j 0 ≤ get_or l (suc j) 0
unfolding Ascending
ascending_at [] j a b = absurd (omega arith)
ascending_at (f ∷ l) zero a b = least_at f l 0 a.0 (omega arith)
ascending_at (f ∷ l) (suc j) a b = ascending_at l j a.1 (omega arith)

-- a run is ascending, and its remainders are below R
module _ (R : ℕ) (pos-R : 0 < R) where
  pub run_under : (l : List ℕ) (x : ℕ) → Under R (run R l x)
  unfolding Under run
  run_under [] x = tt
  run_under (f ∷ l) x = choose_by (Under R) (ℕ_discrete (f / R) x) (λ _. (mod-lt f pos-R, run_under l x)) (λ _. run_under l x)

  run_from : (f : ℕ) (l : List ℕ) (x : ℕ) → f / R ≡ x → Least f l → Least (f % R) (run R l x)
  unfolding Least run
  run_from f [] x e h = tt
  run_from f (g ∷ l) x e h =
      choose_by (Least (f % R)) (ℕ_discrete (g / R) x)
      (λ e'. (omega (arith, h.0, div-add-mod' f R, div-add-mod' g R, ap (λ z. z * R) e, ap (λ z. z * R) e'), run_from f l x e h.1))
      (λ _. run_from f l x e h.1)

  pub run_ascending : (l : List ℕ) (x : ℕ) → Ascending l → Ascending (run R l x)
  unfolding Ascending run
  run_ascending [] x a = tt
  run_ascending (f ∷ l) x a =
      choose_by Ascending (ℕ_discrete (f / R) x) (λ e. (run_from f l x e a.0, run_ascending l x a.1)) (λ _. run_ascending l x a.1)

pub under_at : (b : ℕ) (l : List ℕ) (j : ℕ) → Under b l → j < length l → get_or l j 0 < b
unfolding Under
under_at b [] j u h = absurd (omega arith)
under_at b (f ∷ l) zero u h = u.0
under_at b (f ∷ l) (suc j) u h = under_at b l j u.1 (omega arith)
