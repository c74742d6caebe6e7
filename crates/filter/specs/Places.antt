-- The places of a listing, one for each number of steps taken, and what the step does between them.
use Rattle.std.specs.Prelude.{Option, Some, None, Result, Ok, ℕ, suc, ◌+◌, ◌-◌, ◌%◌, ◌^◌, ◌≤◌, ◌<◌, ◌≡◌, refl, List, [], ◌∷◌, length, get_or}
use Rattle.std.proofs.Common.{ap, ◌∙◌, arith}
use Rattle.std.proofs.Math.Decide.{dec_lt, ℕ_discrete}
use Rattle.theory.specs.tools.Choose.{choose, choose_yes, choose_no}
use Rattle.theory.specs.tools.Total.{total}
use Rattle.theory.specs.Shape.{slots}
use Rattle.theory.specs.Holding.{run}
use Rattle.theory.specs.Image.{many, start, carry, walk, run_at}
use Rattle.theory.specs.Listing.{quotient_at, slot_at}
use Rattle.layout.specs.Whole.{views_in}
use Rattle.theory.specs.reading.ListingPlaces.{Kth}
use Rattle.layout.specs.declared.refusal.Refusal.{Refusal}
use Rattle.layout.specs.declared.shape.Shape.{Shape}
use Rattle.filter.specs.declared.listing.Place.{Place}
use Rattle.filter.specs.declared.listing.Stepped.{Stepped}
use Rattle.filter.specs.Lookup.{Shows}

-- what a step answers: the next fingerprint, none where the listing is done, or a refusal
abbrev pub Step : Type 0
Step = Result (Option ℕ) Refusal

-- an answer and a place, as one value
abbrev pub stepped : Step → Place → Stepped
stepped a p = record { step = a; place = p }

-- all 0 when none remain
abbrev pub nowhere : Place
nowhere = record { quotient = 0; slot = 0; remaining = 0 }

abbrev pub done : Stepped
done = stepped (Ok None) nowhere

-- the place after k steps: quotient and slot of the fingerprint to come, and how many are to come; three zeros at the end
unfoldable pub place_of : ℕ → ℕ → List ℕ → ℕ → Place
place_of q r l k =
    choose (dec_lt k (length l)) (record { quotient = quotient_at (2 ^ r) l k; slot = slot_at (slots q) (2 ^ r) l k; remaining = length l - k }) nowhere

-- step k: the fingerprint with the number k, counted from 0, and the place after it; or done
unfoldable pub step_of : ℕ → ℕ → List ℕ → ℕ → Stepped
step_of q r l k = choose (dec_lt k (length l)) (stepped (Ok (Some (get_or l k 0))) (place_of q r l (suc k))) done

-- ---- what the functions of the listing answer, if the buffer is an image
-- the k-th fingerprint held has the quotient x and stands in slot s, at place j of its run
pub record Stands (h : Shape) (l : List ℕ) (k x s : ℕ) : Type 0 where
  pub j : ℕ
  pub at : Kth (slots h.qbits) (2 ^ h.rbits) l k x j
  pub slot : s ≡ (start (slots h.qbits) (many (slots h.qbits) (2 ^ h.rbits) l) x + j) % slots h.qbits

-- from the fingerprint of quotient x in slot s to the next, with `left` behind it
abbrev pub Moves : Shape → List ℕ → ℕ → ℕ → ℕ → Place → Type 0
Moves h b x s left p = (l : List ℕ) → Shows h b l → (k : ℕ) → Stands h l k x s → left ≡ length l - suc k → p ≡ place_of h.qbits h.rbits l (suc k)

-- a run ends in slot s
abbrev pub Ends : Shape → List ℕ → ℕ → Type 0
Ends h b s = (views_in h b).runend s ≡ 1

-- the place of the first of len fingerprints
abbrev pub First : Shape → List ℕ → ℕ → Place → Type 0
First h b len p = (l : List ℕ) → Shows h b l → len ≡ length l → p ≡ place_of h.qbits h.rbits l 0

-- one step: done stays done, and from the place after k steps it is step k
pub record Steps (h : Shape) (b : List ℕ) (p : Place) (r : Stepped) : Type 0 where
  pub stays : p ≡ nowhere → r ≡ done
  pub right : (l : List ℕ) → Shows h b l → (k : ℕ) → p ≡ place_of h.qbits h.rbits l k → r ≡ step_of h.qbits h.rbits l k

-- ---- places
module _ (q r : ℕ) (l : List ℕ) (k : ℕ) where
  pub place_some : k < length l → place_of q r l k ≡ record { quotient = quotient_at (2 ^ r) l k; slot = slot_at (slots q) (2 ^ r) l k; remaining = length l - k }
  unfolding place_of
  place_some b = choose_yes (dec_lt k (length l)) _ _ b

  pub place_none : length l ≤ k → place_of q r l k ≡ nowhere
  unfolding place_of
  place_none b = choose_no (dec_lt k (length l)) _ _ (λ c. omega arith)

  pub step_some : k < length l → step_of q r l k ≡ stepped (Ok (Some (get_or l k 0))) (place_of q r l (suc k))
  unfolding step_of
  step_some b = choose_yes (dec_lt k (length l)) _ _ b

  pub step_none : length l ≤ k → step_of q r l k ≡ done
  unfolding step_of
  step_none b = choose_no (dec_lt k (length l)) _ _ (λ c. omega arith)

  pub place_left : (place_of q r l k).remaining ≡ length l - k
  place_left = go (dec_lt k (length l))
    where
      go : Dec (k < length l) → (place_of q r l k).remaining ≡ length l - k
      go (yes b) = ap (λ (p : Place). p.remaining) (place_some b)
      go (no b) = ap (λ (p : Place). p.remaining) (place_none (omega arith)) ∙ omega arith

-- three copies of 3f07 in 64 slots stand in slots 63, 0 and 1
pub wrapped_places : (place_of 6 8 (0x3f07 ∷ 0x3f07 ∷ 0x3f07 ∷ []) 0 ≡ record { quotient = 63; slot = 63; remaining = 3 })
    × (place_of 6 8 (0x3f07 ∷ 0x3f07 ∷ 0x3f07 ∷ []) 1 ≡ record { quotient = 63; slot = 0; remaining = 2 })
    × (place_of 6 8 (0x3f07 ∷ 0x3f07 ∷ 0x3f07 ∷ []) 2 ≡ record { quotient = 63; slot = 1; remaining = 1 })
    × (place_of 6 8 (0x3f07 ∷ 0x3f07 ∷ 0x3f07 ∷ []) 3 ≡ nowhere)
unfolding place_of quotient_at slot_at slots start carry walk many run_at run total choose dec_lt ℕ_discrete
wrapped_places = (refl, refl, refl, refl)
