-- The last equal place of a list: what a scan for it knows on its way, and that it is the place that one copy fewer leaves. Assumes nothing.
use Rattle.std.specs.Prelude.{ℕ, zero, suc, ◌-◌, ◌≤◌, ◌<◌, ◌≡◌, ◌≢◌, List, [], ◌∷◌, length, get_or}
use Rattle.std.proofs.Common.{◌∙◌, arith}
use Rattle.std.proofs.Math.Decide.{dec_le, dec_lt, ℕ_discrete}
use Rattle.theory.specs.tools.Choose.{choose, choose_yes}
use Rattle.theory.specs.Holding.{copies, more, Ascending}
use Rattle.theory.specs.list.Copies.{copies_nil, copies_eq, copies_other}
use Rattle.theory.specs.list.More.{place, place_le, more_at, more_after, more_length}
use Rattle.theory.specs.list.Runs.{least_at}

-- of the first k places, the last equal one is `last` - 1; none is equal if `last` is 0
pub record LastOf (r : ℕ) (l : List ℕ) (k last : ℕ) : Type 0 where
  pub low : last ≤ k
  pub equal : 0 < last → get_or l (last - 1) 0 ≡ r
  pub others : (j : ℕ) → last ≤ j → j < k → get_or l j 0 ≢ r

pub last_none : (r : ℕ) (l : List ℕ) → LastOf r l 0 0
last_none r l = record { low = omega arith; equal = λ p. absurd (omega arith); others = λ j a b. absurd (omega arith) }

module _ (r : ℕ) (l : List ℕ) (k last : ℕ) (w : LastOf r l k last) where
  pub last_meet : get_or l k 0 ≡ r → LastOf r l (suc k) (suc k)
  last_meet e =
      let f : suc k - 1 ≡ k = omega arith in
      record { low = omega arith; equal = λ p. rw f e; others = λ j a b. absurd (omega arith) }

  pub last_pass : get_or l k 0 ≢ r → LastOf r l (suc k) last
  last_pass ne = record { low = omega (arith, w.low); equal = w.equal; others = λ j a b. go j a b (ℕ_discrete j k) }
    where
      go : (j : ℕ) → last ≤ j → j < suc k → Dec (j ≡ k) → get_or l j 0 ≢ r
      go j a b (yes e) = rw e ne
      go j a b (no e) = w.others j a (omega arith)

-- how often r stands there
copies_none : (r : ℕ) (l : List ℕ) → ((j : ℕ) → j < length l → get_or l j 0 ≢ r) → copies r l ≡ 0
copies_none r [] h = copies_nil r
copies_none r (g ∷ l) h = copies_other r g l (h 0 (omega arith)) ∙ copies_none r l (λ j b. h (suc j) (omega arith))

copies_some : (r : ℕ) (l : List ℕ) (j : ℕ) → j < length l → get_or l j 0 ≡ r → 0 < copies r l
copies_some r [] j b e = absurd (omega arith)
copies_some r (g ∷ l) zero b e = omega (arith, copies_eq r g l e)
copies_some r (g ∷ l) (suc j) b e = go (ℕ_discrete g r) (copies_some r l j (omega arith) e)
  where
    go : Dec (g ≡ r) → 0 < copies r l → 0 < copies r (g ∷ l)
    go (yes z) p = omega (arith, copies_eq r g l z)
    go (no z) p = omega (arith, copies_other r g l z)

pub last_absent : (r : ℕ) (l : List ℕ) → LastOf r l (length l) 0 → copies r l ≡ 0
last_absent r l w = copies_none r l (λ j b. w.others j (omega arith) b)

pub last_held : (r : ℕ) (l : List ℕ) (p : ℕ) → LastOf r l (length l) (suc p) → 0 < copies r l
last_held r l p w =
    let e : suc p - 1 ≡ p = omega arith in
    copies_some r l p (omega (arith, w.low)) (rw e at (w.equal (omega arith)))

-- behind its place in an ascending list, all are larger
place_after : (r : ℕ) (l : List ℕ) (j : ℕ) → Ascending l → place r l ≤ j → j < length l → r < get_or l j 0
unfolding place Ascending
place_after r [] j a h b = absurd (omega arith)
place_after r (g ∷ l) j a h b = go (dec_le g r) j h b (λ i. place_after r l i a.1)
  where
    go : (d : Dec (g ≤ r)) (j : ℕ) → choose d (suc (place r l)) 0 ≤ j → j < suc (length l) → ((i : ℕ) → place r l ≤ i → i < length l → r < get_or l i 0) → r < get_or (g ∷ l) j 0
    go (yes d) zero h b ih = absurd (omega (arith, choose_yes (yes d) (suc (place r l)) 0 d))
    go (yes d) (suc j) h b ih = ih j (omega (arith, choose_yes (yes d) (suc (place r l)) 0 d)) (omega arith)
    go (no d) zero h b ih = omega arith
    go (no d) (suc j) h b ih = omega (arith, least_at g l j a.0 (omega arith))

-- the last equal one is the one that `more` put there
pub last_place : (r : ℕ) (l : List ℕ) (p : ℕ) → Ascending l → LastOf r (more r l) (length (more r l)) (suc p) → p ≡ place r l
last_place r l p a w = go (dec_lt p (place r l)) (dec_lt (place r l) p)
  where
    go : Dec (p < place r l) → Dec (place r l < p) → p ≡ place r l
    go (yes b) d = absurd (w.others (place r l) b (omega (arith, more_length r l, place_le r l)) (more_at r l))
    go (no b) (yes c) =
        let e : suc p - 1 ≡ p = omega arith in
        let f : suc (p - 1) ≡ p = omega arith in
        let here : get_or (more r l) p 0 ≡ r = rw e at (w.equal (omega arith)) in
        let there : get_or (more r l) p 0 ≡ get_or l (p - 1) 0 = rw f at (more_after r l (p - 1) (omega arith)) in
        absurd (omega (arith, here, there, place_after r l (p - 1) a (omega arith) (omega (arith, w.low, more_length r l))))
    go (no b) (no c) = omega arith
