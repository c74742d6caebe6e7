-- What lookup and listing say of the holding.
-- Assumes nothing.
use Prim.Native.Nat.{ℕ, zero, suc, ◌+◌, ◌*◌, ◌/◌, ◌%◌, ◌≤◌, ◌<◌}
use Rattle.std.specs.Prelude.{◌≡◌, refl, ◌≢◌}
use Rattle.std.proofs.Common.{sym, ap, ◌∙◌, arith, div-add-mod'}
use mathlib.Core.List.{List, [], ◌∷◌, ◌++◌, map}
use Rattle.std.proofs.Math.Decide.{ℕ_discrete}
use Rattle.std.proofs.Math.ListN.{length, get_or, get_or-append}
use Rattle.std.proofs.Math.Seq.{get_or-append-add}
use Rattle.theory.specs.tools.Choose.{choose, choose_no, choose_by}
use Rattle.theory.specs.tools.Total.{total, total_suc, total_le}
use Rattle.theory.specs.Holding.{run, copies, seek, Ascending, Under}
use Rattle.theory.specs.list.Copies.{copies_nil, copies_eq, copies_other}
use Rattle.theory.specs.list.Runs.{run_here, run_other, run_nil, flat, length_flat, listing}

pub seek_le : (r : ℕ) (l : List ℕ) → seek r l ≤ length l
unfolding seek
seek_le r [] = omega arith
seek_le r (g ∷ l) = choose_by (λ z. z ≤ suc (length l)) (ℕ_discrete g r) (λ _. omega arith) (λ _. omega (arith, seek_le r l))

pub seek_absent : (r : ℕ) (l : List ℕ) → copies r l ≡ 0 → seek r l ≡ length l
unfolding seek
seek_absent r [] e = refl
seek_absent r (g ∷ l) e = go (ℕ_discrete g r) (seek_absent r l)
  where
    go : (d : Dec (g ≡ r)) → (copies r l ≡ 0 → seek r l ≡ length l) → choose d 1 (suc (seek r l)) ≡ suc (length l)
    go (yes z) ih = absurd (omega (arith, copies_eq r g l z))
    go (no z) ih = choose_no (no z) 1 (suc (seek r l)) z ∙ ap suc (ih (omega (arith, copies_other r g l z)))

module _ (R : ℕ) (pos : 0 < R) where
  -- of one quotient, another fingerprint has another remainder
  rem_ne : (f g : ℕ) → g / R ≡ f / R → g ≢ f → g % R ≢ f % R
  rem_ne f g e ne z = ne (omega (arith, div-add-mod' f R, div-add-mod' g R, ap (λ y. y * R) e))

  -- the multiplicity is that of the remainder in the run
  pub copies_run : (f : ℕ) (l : List ℕ) → copies f l ≡ copies (f % R) (run R l (f / R))
  copies_run f [] = copies_nil f ∙ sym (ap (copies (f % R)) (run_nil R (f / R)) ∙ copies_nil (f % R))
  copies_run f (g ∷ l) = go (ℕ_discrete g f) (ℕ_discrete (g / R) (f / R)) (copies_run f l)
    where
      go : Dec (g ≡ f) → Dec (g / R ≡ f / R) → copies f l ≡ copies (f % R) (run R l (f / R)) → copies f (g ∷ l) ≡ copies (f % R) (run R (g ∷ l) (f / R))
      go (yes z) d ih = rw (run_here R pos g l (f / R) (ap (λ y. y / R) z), copies_eq f g l z, copies_eq (f % R) (g % R) (run R l (f / R)) (ap (λ y. y % R) z)) (ap suc ih)
      go (no z) (yes y) ih = rw (run_here R pos g l (f / R) y, copies_other f g l z, copies_other (f % R) (g % R) (run R l (f / R)) (rem_ne f g y z)) ih
      go (no z) (no y) ih = rw (run_other R pos g l (f / R) y, copies_other f g l z) ih

  get_d_shift : (k : ℕ) (l : List ℕ) (j : ℕ) → j < length l → get_or (map (λ r. k + r) l) j 0 ≡ k + get_or l j 0
  get_d_shift k [] j b = absurd (omega arith)
  get_d_shift k (f ∷ l) zero b = refl
  get_d_shift k (f ∷ l) (suc j) b = get_d_shift k l j (omega arith)

  -- which fingerprint of the listing stands at place j of the run of x
  pub flat_at : (runs : ℕ → List ℕ) (k x j : ℕ) → x < k → j < length (runs x) → get_or (flat R runs k) (total (λ y. length (runs y)) x + j) 0 ≡ x * R + get_or (runs x) j 0
  unfolding flat
  flat_at runs zero x j b l = absurd (omega arith)
  flat_at runs (suc k) x j b l = go (ℕ_discrete x k) (λ c. flat_at runs k x j c l)
    where
      go : Dec (x ≡ k) → (x < k → get_or (flat R runs k) (total (λ y. length (runs y)) x + j) 0 ≡ x * R + get_or (runs x) j 0)
          → get_or (flat R runs k ++ map (λ r. k * R + r) (runs k)) (total (λ y. length (runs y)) x + j) 0 ≡ x * R + get_or (runs x) j 0
      go (yes e) ih =
          let l' : j < length (runs k) = rw e at l in
          rw (e, ← length_flat R runs k, get_or-append-add (flat R runs k) (map (λ r. k * R + r) (runs k)) j 0) (get_d_shift (k * R) (runs k) j l')
      go (no e) ih =
          get_or-append (flat R runs k) _ 0 (total (λ y. length (runs y)) x + j)
          (omega (arith, length_flat R runs k, total_suc (λ y. length (runs y)) x, total_le (λ y. length (runs y)) (suc x) k (omega arith))) ∙ ih (omega arith)

  pub listing_at : (l : List ℕ) (k x j : ℕ) → Ascending l → Under (k * R) l → x < k → j < length (run R l x) → get_or l (total (λ y. length (run R l y)) x + j) 0 ≡ x * R + get_or (run R l x) j 0
  listing_at l k x j a u b c = ap (λ z. get_or z (total (λ y. length (run R l y)) x + j) 0) (sym (listing R pos l k a u)) ∙ flat_at (run R l) k x j b c
