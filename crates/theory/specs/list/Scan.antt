-- A scan over a run from its first place on, place by place: what is still to come is the run without its first k. Assumes nothing.
use Rattle.std.specs.Prelude.{ℕ, zero, suc, ◌+◌, ◌-◌, ◌≤◌, ◌<◌, ◌≡◌, refl, ◌≢◌, List, [], ◌∷◌, length, get_or, drop}
use Rattle.std.proofs.Math.Path.{ap}
use Rattle.std.proofs.Common.{◌∙◌, arith, drop-cons}
use Rattle.std.proofs.Math.Decide.{ℕ_discrete}
use Rattle.theory.specs.tools.Choose.{choose_no, choose_yes, choose}
use Rattle.theory.specs.Holding.{copies, seek}
use Rattle.theory.specs.list.Copies.{copies_nil, copies_other, copies_eq}

-- at place k of the run: what seek and copies say of the rest
module _ (r : ℕ) (l : List ℕ) (k : ℕ) (h : k < length l) where
  rest : drop k l ≡ get_or l k 0 ∷ drop (suc k) l
  rest = drop-cons l k 0 h

  pub seek_pass : get_or l k 0 ≢ r → seek r (drop k l) ≡ suc (seek r (drop (suc k) l))
  unfolding seek
  seek_pass ne = ap (seek r) rest ∙ choose_no (ℕ_discrete (get_or l k 0) r) 1 (suc (seek r (drop (suc k) l))) ne

  pub seek_stop : get_or l k 0 ≡ r → seek r (drop k l) ≡ 1
  unfolding seek
  seek_stop e = ap (seek r) rest ∙ choose_yes (ℕ_discrete (get_or l k 0) r) 1 (suc (seek r (drop (suc k) l))) e

  pub copies_pass : get_or l k 0 ≢ r → copies r (drop k l) ≡ copies r (drop (suc k) l)
  copies_pass ne = ap (copies r) rest ∙ copies_other r (get_or l k 0) (drop (suc k) l) ne

  pub copies_meet : get_or l k 0 ≡ r → copies r (drop k l) ≡ suc (copies r (drop (suc k) l))
  copies_meet e = ap (copies r) rest ∙ copies_eq r (get_or l k 0) (drop (suc k) l) e

pub drop_past : (l : List ℕ) (k : ℕ) → length l ≤ k → drop k l ≡ []
drop_past [] zero h = refl
drop_past [] (suc k) h = refl
drop_past (f ∷ l) zero h = absurd (omega arith)
drop_past (f ∷ l) (suc k) h = drop_past l k (omega arith)

-- nothing is left behind the last place
pub seek_over : (r : ℕ) (l : List ℕ) (k : ℕ) → length l ≤ k → seek r (drop k l) ≡ 0
unfolding seek
seek_over r l k h = ap (seek r) (drop_past l k h)

pub copies_over : (r : ℕ) (l : List ℕ) (k : ℕ) → length l ≤ k → copies r (drop k l) ≡ 0
copies_over r l k h = ap (copies r) (drop_past l k h) ∙ copies_nil r

-- one place more, counted
pub copies_next : (r : ℕ) (l : List ℕ) (k e : ℕ) → k < length l → (get_or l k 0 ≡ r → e ≡ 1) → (get_or l k 0 ≢ r → e ≡ 0) → copies r (drop k l) ≡ e + copies r (drop (suc k) l)
copies_next r l k e h a b = go (ℕ_discrete (get_or l k 0) r)
  where
    go : Dec (get_or l k 0 ≡ r) → copies r (drop k l) ≡ e + copies r (drop (suc k) l)
    go (yes z) = omega (arith, a z, copies_meet r l k h z)
    go (no z) = omega (arith, b z, copies_pass r l k h z)

-- before the first equal one there is none, and it is a place of the list
pub seek_copies : (r : ℕ) (l : List ℕ) → 0 < copies r l → (0 < seek r l) × (seek r l ≤ length l) × (copies r l ≡ copies r (drop (seek r l - 1) l))
unfolding seek
seek_copies r [] p = absurd (omega (arith, copies_nil r))
seek_copies r (g ∷ l) p = go (ℕ_discrete g r) (λ h. seek_copies r l h)
  where
    go : (d : Dec (g ≡ r)) → (0 < copies r l → (0 < seek r l) × (seek r l ≤ length l) × (copies r l ≡ copies r (drop (seek r l - 1) l)))
        → (0 < choose d 1 (suc (seek r l))) × (choose d 1 (suc (seek r l)) ≤ suc (length l)) × (copies r (g ∷ l) ≡ copies r (drop (choose d 1 (suc (seek r l)) - 1) (g ∷ l)))
    go (yes z) ih = rw (choose_yes (yes z) 1 (suc (seek r l)) z) (omega arith, omega arith, refl)
    go (no z) ih =
        let c : copies r (g ∷ l) ≡ copies r l = copies_other r g l z in
        let i = ih (omega arith) in
        let e : suc (seek r l) - 1 ≡ suc (seek r l - 1) = omega arith in
        rw (choose_no (no z) 1 (suc (seek r l)) z, e) (omega arith, omega arith, c ∙ i.2)
