-- What follows of the promises of a listing: from the first place on the steps give exactly the list held and then done, and each place between is
-- that after so many steps. Assumes nothing.
use Prim.Native.Nat.{ℕ, zero, suc, ◌+◌, ◌-◌, ◌≤◌, ◌<◌}
use Rattle.std.proofs.Math.Path.{◌≡◌, sym, ap, ap₂}
use Rattle.std.specs.Prelude.{Some, None, Ok, refl, replicate}
use Rattle.std.proofs.Common.{subst, ◌∙◌, add-zero, length-append, drop-cons}
use mathlib.Core.List.{List, [], ◌∷◌, ◌++◌, map}
use native.Mathlib.Omega.{arith}
use Rattle.std.proofs.Math.Decide.{dec_lt}
use Rattle.std.proofs.Math.ListN.{length, get_or, drop, length-drop}
use Rattle.std.proofs.lemmas.List.{length-map}
use Rattle.theory.proofs.images.ImageViews.{image_tells}
use Rattle.theory.specs.refusals.Demands.{not_refused}
use Rattle.layout.specs.declared.numbers.Numbers.{Numbers}
use Rattle.filter.specs.declared.listing.Place.{Place}
use Rattle.filter.specs.declared.listing.Stepped.{Stepped}
use Rattle.layout.specs.Records.{lowest_due, HoldsOf}
use Rattle.filter.specs.Places.{Step, stepped, nowhere, done, place_of, step_of, place_none, place_left, step_some, step_none}
use Rattle.layout.specs.Judging.{clear_whole}
use Rattle.filter.specs.Listing.{Begins, Listed, step_is, listed_step, listed_done}

-- ---- the steps of a list
-- each of its fingerprints, then done
abbrev pub all_then_done : List ℕ → List Step
all_then_done l = map (λ f. Ok (Some f)) l ++ (Ok None ∷ [])

drop_over : (k : ℕ) (l : List ℕ) → length l ≤ k → drop k l ≡ []
drop_over k l b = empty (drop k l) (omega (arith, length-drop k l))
  where
    empty : (d : List ℕ) → length d ≡ 0 → d ≡ []
    empty [] e = refl
    empty (f ∷ d) e = absurd (omega arith)

module _ (q r : ℕ) (l : List ℕ) where
  -- the answers of c steps from step k on
  unfoldable pub answers : ℕ → ℕ → List Step
  answers k zero = []
  answers k (suc c) = (step_of q r l k).step ∷ answers (suc k) c

  -- each step leaves the place after it
  pub step_place : (k : ℕ) → (step_of q r l k).place ≡ place_of q r l (suc k)
  step_place k = go (dec_lt k (length l))
    where
      go : Dec (k < length l) → (step_of q r l k).place ≡ place_of q r l (suc k)
      go (yes b) = ap (λ (z : Stepped). z.place) (step_some q r l k b)
      go (no b) = ap (λ (z : Stepped). z.place) (step_none q r l k (omega arith)) ∙ sym (place_none q r l (suc k) (omega arith))

  answers_from : (rest : List ℕ) (k : ℕ) → drop k l ≡ rest → answers k (suc (length rest)) ≡ all_then_done rest
  unfolding answers
  answers_from [] k e = ap (λ (z : Stepped). z.step ∷ []) (step_none q r l k (omega (arith, length-drop k l, ap length e)))
  answers_from (f ∷ rest) k e =
      let b : k < length l = omega (arith, length-drop k l, ap length e) in
      let c : get_or l k 0 ∷ drop (suc k) l ≡ f ∷ rest = sym (drop-cons l k 0 b) ∙ e in
      let d : get_or l k 0 ≡ f = cc in
      let g : drop (suc k) l ≡ rest = cc in
      ap₂ ◌∷◌ (ap (λ (z : Stepped). z.step) (step_some q r l k b) ∙ ap (λ z. Ok (Some z)) d) (answers_from rest (suc k) g)

  -- all of the list, then done
  pub answers_all : answers 0 (suc (length l)) ≡ all_then_done l
  answers_all = answers_from l 0 refl

  -- steps that give fingerprints and then done for the first time give all from step k on
  answers_until : (fs : List ℕ) (k : ℕ) → all_then_done fs ≡ answers k (length (all_then_done fs)) → fs ≡ drop k l
  unfolding answers
  answers_until [] k e = go (dec_lt k (length l))
    where
      go : Dec (k < length l) → [] ≡ drop k l
      go (yes b) = absurd (cc (e, ap (λ (z : Stepped). z.step) (step_some q r l k b)))
      go (no b) = sym (drop_over k l (omega arith))
  answers_until (f ∷ fs) k e = go (dec_lt k (length l)) (answers_until fs (suc k))
    where
      go : Dec (k < length l) → (all_then_done fs ≡ answers (suc k) (length (all_then_done fs)) → fs ≡ drop (suc k) l) → f ∷ fs ≡ drop k l
      go (yes b) ih =
          let d : f ≡ get_or l k 0 = cc (e, ap (λ (z : Stepped). z.step) (step_some q r l k b)) in
          rw (drop-cons l k 0 b) (ap₂ ◌∷◌ d (ih (cc e)))
      go (no b) ih = absurd (cc (e, ap (λ (z : Stepped). z.step) (step_none q r l k (omega arith))))

  same_step : (j k : ℕ) → place_of q r l j ≡ place_of q r l k → step_of q r l j ≡ step_of q r l k
  same_step j k e = go (dec_lt j (length l))
    where
      left : length l - j ≡ length l - k
      left = sym (place_left q r l j) ∙ ap (λ (p : Place). p.remaining) e ∙ place_left q r l k

      go : Dec (j < length l) → step_of q r l j ≡ step_of q r l k
      go (yes b) = ap (step_of q r l) (omega (arith, left))
      go (no b) = step_none q r l j (omega arith) ∙ sym (step_none q r l k (omega (arith, left)))

-- ---- steps one after the other, each from the place that the one before left
unfoldable pub Goes : Numbers → List ℕ → Place → List Step → Place → Type 0
Goes n s p [] p' = p ≡ p'
Goes n s p (a ∷ ts) p' = (m : Place) × Listed n s p (stepped a m) × Goes n s m ts p'

module _ (n : Numbers) (s l : List ℕ) (e : lowest_due n s ≡ 0) (h : HoldsOf n s l) where
  -- any steps from step k on
  goes_from : (ts : List Step) (k : ℕ) (p p' : Place) → p ≡ place_of n.qbits n.rbits l k → Goes n s p ts p'
      → (ts ≡ answers n.qbits n.rbits l k (length ts)) × (p' ≡ place_of n.qbits n.rbits l (k + length ts))
  unfolding Goes answers
  goes_from [] k p p' f g = (refl, sym g ∙ f ∙ ap (place_of n.qbits n.rbits l) (sym (add-zero k)))
  goes_from (a ∷ ts) k p p' f g =
      let t : stepped a g.0 ≡ step_of n.qbits n.rbits l k = listed_step n s l e h _ _ g.1 k f in
      let i = goes_from ts (suc k) g.0 p' (ap (λ (z : Stepped). z.place) t ∙ step_place n.qbits n.rbits l k) g.2 in
      let j : suc k + length ts ≡ k + suc (length ts) = omega arith in
      (ap₂ ◌∷◌ (ap (λ (z : Stepped). z.step) t) i.0, rw j at i.1)

  -- after so many steps from the first place, the place is the one defined
  pub place_after : (ts : List Step) (p : Place) → Goes n s (place_of n.qbits n.rbits l 0) ts p → p ≡ place_of n.qbits n.rbits l (length ts)
  place_after ts p g =
      let z : 0 + length ts ≡ length ts = omega arith in
      rw z at (goes_from ts 0 _ p refl g).1

  -- len + 1 steps give exactly the list held, then done
  pub whole_listing : (ts : List Step) (p : Place) → length ts ≡ suc n.len → Goes n s (place_of n.qbits n.rbits l 0) ts p
      → (ts ≡ all_then_done l) × (p ≡ nowhere)
  whole_listing ts p c g =
      let d : length ts ≡ suc (length l) = c ∙ ap suc (sym h.many) in (
        (goes_from ts 0 _ p refl g).0 ∙ ap (answers n.qbits n.rbits l 0) d ∙ answers_all n.qbits n.rbits l,
        place_after ts p g ∙ place_none n.qbits n.rbits l (length ts) (omega arith),
      )

  -- steps up to the first done give exactly the list held, and so they are len + 1
  pub until_done : (fs : List ℕ) (p : Place) → Goes n s (place_of n.qbits n.rbits l 0) (all_then_done fs) p → (fs ≡ l) × (length (all_then_done fs) ≡ suc n.len)
  until_done fs p g =
      let e = answers_until n.qbits n.rbits l fs 0 (goes_from _ 0 _ p refl g).0 in
      (e, omega (arith, length-append {A = Step} (map (λ z. Ok (Some z)) fs) (Ok None ∷ []), length-map {B = Step} fs (λ z. Ok (Some z)), ap length e, h.many))

  -- the promise can be kept at every place of the list, so there are such steps
  pub listed_is : (k : ℕ) → Listed n s (place_of n.qbits n.rbits l k) (step_of n.qbits n.rbits l k)
  listed_is k = record {
    refused = λ d. absurd (omega arith);
    stays = λ _ z. rw (step_none n.qbits n.rbits l k (omega (arith, place_left n.qbits n.rbits l k, ap (λ (p : Place). p.remaining) z))) (record { says = refl; place = refl });
    right = λ _ l' h' k' z.
        let t : l' ≡ l = image_tells n.qbits n.rbits (clear_whole n s e).widths.low l' l h'.holding h.holding (sym h'.bytes ∙ h.bytes) in
        rw (same_step n.qbits n.rbits l k k' (z ∙ ap (λ (y : List ℕ). place_of n.qbits n.rbits y k') t)
        ∙ ap (λ (y : List ℕ). step_of n.qbits n.rbits y k') (sym t)) (step_is n.qbits n.rbits l' k');
  }

  pub goes_on : (c k : ℕ) → Goes n s (place_of n.qbits n.rbits l k) (answers n.qbits n.rbits l k c) (place_of n.qbits n.rbits l (k + c))
  unfolding Goes answers
  goes_on zero k = ap (place_of n.qbits n.rbits l) (sym (add-zero k))
  goes_on (suc c) k =
      let j : suc k + c ≡ k + suc c = omega arith in
      let i = rw j at (goes_on c (suc k)) in
      ((step_of n.qbits n.rbits l k).place, listed_is k, rw (step_place n.qbits n.rbits l k) i)

-- ---- from the beginning
-- a beginning that is not refused: the buffer holds a list, and the place is that of its first fingerprint
pub begun_at : (n : Numbers) (s : List ℕ) (p : Place) → Begins n s (Ok p) → (l : List ℕ) × HoldsOf n s l × (lowest_due n s ≡ 0) × (p ≡ place_of n.qbits n.rbits l 0)
begun_at n s p b =
    let y = not_refused _ _ _ _ s _ _ b (λ k e. cc) in
    (y.0.held, y.0.holds, y.0.none, cc y.1)

-- the steps from its place up to the first done: they give exactly that list, and they are len + 1
pub begun_until_done : (n : Numbers) (s : List ℕ) (p p' : Place) (fs : List ℕ) → Begins n s (Ok p) → Goes n s p (all_then_done fs) p'
    → HoldsOf n s fs × (length (all_then_done fs) ≡ suc n.len)
begun_until_done n s p p' fs b g =
    let y = begun_at n s p b in
    let w = until_done n s y.0 y.2 y.1 fs p' (subst (λ (m : Place). Goes n s m (all_then_done fs) p') y.3 g) in
    (rw w.0 y.1, w.1)

-- done stays done, whatever the buffer is, if none of 1 to 5 is due
pub done_stays : (n : Numbers) (s : List ℕ) → lowest_due n s ≡ 0 → (ts : List Step) (p : Place) → Goes n s nowhere ts p → (ts ≡ replicate (length ts) (Ok None)) × (p ≡ nowhere)
unfolding Goes
done_stays n s e [] p g = (refl, sym g)
done_stays n s e (a ∷ ts) p g =
    let t : stepped a g.0 ≡ done = listed_done n s e _ g.1 in
    let i = done_stays n s e ts p (subst (λ (m : Place). Goes n s m ts p) (ap (λ (z : Stepped). z.place) t) g.2) in
    (ap₂ ◌∷◌ (ap (λ (z : Stepped). z.step) t) i.0, i.1)
