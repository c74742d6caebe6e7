-- How the loops count: the steps of a listing, the first k of b listed anew, and all of b.
use Rattle.std.specs.Prelude.{ℕ, suc, Ok, Some, Bool, true, false, ◌+◌, ◌-◌, ◌≤◌, ◌<◌, ◌≡◌, ◌≢◌, List, length, get_or, take}
use Rattle.std.proofs.Common.{sym, ap, ◌∙◌, add-one}
use native.Mathlib.Omega.{arith}
use Rattle.std.proofs.Math.Decide.{ℕ_discrete}
use Rattle.std.proofs.lemmas.List.{length-map}
use Rattle.std.proofs.Math.Seq.{take-length}
use Rattle.theory.specs.list.Firsts.{copies_taken, taken_none, once_step, once_part, get_d_map}
use Rattle.theory.specs.Joining.{added_once}
use Rattle.layout.specs.declared.shape.Shape.{Shape}
use Rattle.filter.specs.declared.listing.Place.{Place}
use Rattle.filter.specs.declared.listing.Stepped.{Stepped}
use Rattle.filter.specs.Places.{place_of, Steps, First, step_some}
use Rattle.growth.specs.declared.source.Source.{Source}
use Rattle.growth.specs.Adding.{cut_of, cuts, ShownBy, Held, TellsNone, Unmet, New, Adds}

-- ---- a listing of a source: its first place, a step from a place, and the place after k steps
abbrev pub Starts : Source → Place → Type 0
Starts b p = First b.lent.shape b.lent.buf.now b.len p

abbrev pub StepsOn : Source → Place → Stepped → Type 0
StepsOn b p a = Steps b.lent.shape b.lent.buf.now p a

abbrev pub place_in : Source → List ℕ → ℕ → Place
place_in b l k = place_of b.lent.shape.qbits b.lent.shape.rbits l k

-- from the place after k steps of more, the fingerprint of step k
pub told_step : (b : Source) (l : List ℕ) (p : Place) (a : Stepped) (k : ℕ) → StepsOn b p a → ShownBy b l → p ≡ place_in b l k → k < length l
    → (a.step ≡ Ok (Some (get_or l k 0))) × (a.place ≡ place_in b l (suc k))
told_step b l p a k st w at few =
    let e = st.right l w k at ∙ step_some b.lent.shape.qbits b.lent.shape.rbits l k few in
    (ap (λ (z : Stepped). z.step) e, ap (λ (z : Stepped). z.place) e)

-- ---- the first k, listed anew
module _ (b : Source) (h : Shape) (k f : ℕ) where
  -- i of them are passed, none of them cut to f
  pub record Passed (l : List ℕ) (i : ℕ) (p : Place) : Type 0 where
    pub at : p ≡ place_in b l i
    pub none : (j : ℕ) → j < i → cut_of h (get_or l j 0) ≢ f

  pub record Passing (i : ℕ) (p : Place) : Type 0 where
    pub right : (l : List ℕ) → ShownBy b l → b.len ≡ length l → k ≤ length l → Passed l i p

  pub passing_none : (p : Place) → Starts b p → Passing 0 p
  passing_none p e = record { right = λ l w n d. record { at = e l w n; none = λ j u. absurd (omega arith) } }

  module _ (i : ℕ) (p : Place) (a : Stepped) (few : i < k) (ps : Passing i p) (st : StepsOn b p a) where
    told : (l : List ℕ) → ShownBy b l → b.len ≡ length l → k ≤ length l → (a.step ≡ Ok (Some (get_or l i 0))) × (a.place ≡ place_in b l (suc i))
    told l w n d = told_step b l p a i st w (ps.right l w n d).at (omega arith)

    -- no other answer than a fingerprint
    pub unmet_other : ((g : ℕ) → a.step ≡ Ok (Some g) → ⊥) → Unmet b h k f false
    unmet_other never = record { right = λ l w n d. absurd (never _ (told l w n d).0) }

    module _ (g : ℕ) (is : a.step ≡ Ok (Some g)) where
      same : (l : List ℕ) → ShownBy b l → b.len ≡ length l → k ≤ length l → get_or l i 0 ≡ g
      same l w n d = cc (is, (told l w n d).0)

      pub unmet_hit : cut_of h g ≡ f → Unmet b h k f false
      unmet_hit e = record {
        right = λ l w n d.
            let m : get_or (cuts h l) i 0 ≡ f = get_d_map _ l i (omega arith) ∙ ap (cut_of h) (same l w n d) ∙ e in
            omega (arith, copies_taken f (cuts h l) i k few (omega (arith, length-map l (cut_of h))) m);
      }

      pub passing_on : cut_of h g ≢ f → Passing (i + 1) a.place
      passing_on ne = record { right = λ l w n d. rw (add-one i) (record { at = (told l w n d).1; none = λ j u e. go l w n d j u e (ℕ_discrete j i) }) }
        where
          go : (l : List ℕ) → ShownBy b l → b.len ≡ length l → k ≤ length l → (j : ℕ) → j < suc i → cut_of h (get_or l j 0) ≡ f → Dec (j ≡ i) → ⊥
          go l w n d j u e (yes z) = ne (ap (cut_of h) (sym (same l w n d) ∙ sym (ap (λ y. get_or l y 0) z)) ∙ e)
          go l w n d j u e (no z) = (ps.right l w n d).none j (omega arith) e

  pub unmet_end : (i : ℕ) (p : Place) → k ≤ i → Passing i p → Unmet b h k f true
  unmet_end i p few ps = record { right = λ l w n d. taken_none f (cuts h l) k (λ j u v e. (ps.right l w n d).none j (omega arith) (sym (get_d_map _ l j (omega arith)) ∙ e)) }

-- ---- all of b: k are passed, and count of them are added
-- one more, if it is new
abbrev pub counted : Bool → ℕ → ℕ
counted true count = count + 1
counted false count = count

counted_more : (r : Bool) (count held : ℕ) → TellsNone r held → counted r count ≡ count + (1 - held)
counted_more true count held e = omega arith
counted_more false count held e = omega arith

counted_most : (r : Bool) (count : ℕ) → counted r count ≤ count + 1
counted_most true count = omega arith
counted_most false count = omega arith

module _ (a b : Source) where
  pub record Counted (la lb : List ℕ) (k count before : ℕ) (p : Place) : Type 0 where
    pub at : p ≡ place_in b lb k
    pub last : 0 < k → before ≡ get_or lb (k - 1) 0
    pub many : length (added_once la (take k (cuts a.lent.shape lb))) ≡ length la + count

  pub record Counting (enough k count before : ℕ) (p : Place) : Type 0 where
    pub within : k ≤ b.len
    pub few : count ≤ k
    pub most : count ≤ enough
    pub right : (la lb : List ℕ) → Held a la → ShownBy b lb → b.len ≡ length lb → Counted la lb k count before p

  pub counting_none : (enough : ℕ) (p : Place) → Starts b p → Counting enough 0 0 0 p
  unfolding added_once
  counting_none enough p e = record {
    within = omega arith;
    few = omega arith;
    most = omega arith;
    right = λ la lb v w n. record { at = e lb w n; last = λ d. absurd (omega arith); many = omega arith };
  }

  module _ (enough k count before : ℕ) (p : Place) (z : Counting enough k count before p) where
    -- as many as are enough, or all of b
    pub adds_enough : enough ≤ count → Adds a b enough count
    adds_enough h = record {
      bound = omega (arith, z.within, z.few);
      right = λ la lb v w n. omega (arith, z.most, (z.right la lb v w n).many, once_part la (cuts a.lent.shape lb) k);
    }

    pub adds_all : b.len ≤ k → Adds a b enough count
    adds_all h = record {
      bound = omega (arith, z.within, z.few);
      right = λ la lb v w n.
          let e : k ≡ length (cuts a.lent.shape lb) = omega (arith, z.within, length-map lb (cut_of a.lent.shape)) in
          let t : take k (cuts a.lent.shape lb) ≡ cuts a.lent.shape lb = rw e (take-length (cuts a.lent.shape lb)) in
          omega (arith, z.most, rw t at (z.right la lb v w n).many);
    }

    module _ (s : Stepped) (more : k < b.len) (st : StepsOn b p s) where
      listed : (la lb : List ℕ) → Held a la → ShownBy b lb → b.len ≡ length lb → (s.step ≡ Ok (Some (get_or lb k 0))) × (s.place ≡ place_in b lb (suc k))
      listed la lb v w n = told_step b lb p s k st w (z.right la lb v w n).at (omega arith)

      pub adds_other : ((g : ℕ) → s.step ≡ Ok (Some g) → ⊥) → Adds a b enough count
      adds_other never = record {
        bound = omega (arith, z.within, z.few);
        right = λ la lb v w n. absurd (never _ (listed la lb v w n).0);
      }

      pub counting_on : (f : ℕ) (r : Bool) → s.step ≡ Ok (Some f) → count < enough → New a b k before f r → Counting enough (k + 1) (counted r count) f s.place
      counting_on f r is less new = record {
        within = omega arith;
        few = omega (arith, z.few, counted_most r count);
        most = omega (arith, counted_most r count);
        right = λ la lb v w n. rw (add-one k) (next la lb v w n);
      }
        where
          next : (la lb : List ℕ) → Held a la → ShownBy b lb → b.len ≡ length lb → Counted la lb (suc k) (counted r count) f s.place
          next la lb v w n =
              let c = z.right la lb v w n in
              let t = listed la lb v w n in
              let here : f ≡ get_or lb k 0 = cc (is, t.0) in
              let d : k < length lb = omega arith in
              let at : get_or (cuts a.lent.shape lb) k 0 ≡ cut_of a.lent.shape f = get_d_map _ lb k d ∙ ap (cut_of a.lent.shape) (sym here) in
              let one = counted_more r count _ (new.right la lb v w n (record { within = d; here = here; last = c.last })) in
              let grown = rw at at (once_step la (cuts a.lent.shape lb) k (omega (arith, length-map lb (cut_of a.lent.shape)))) in
              let e : suc k - 1 ≡ k = omega arith in
              record { at = t.1; last = λ _. rw e here; many = omega (arith, c.many, grown, one) }
