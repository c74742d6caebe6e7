-- The promises of a listing: its beginning and its steps.
use Rattle.std.specs.Prelude.{Result, Err, ℕ, suc, ◌-◌, ◌<◌, min, ◌≡◌, refl, List, length, get_or}
use Rattle.std.proofs.Common.{sym, ap, ◌∙◌, arith}
use Rattle.std.proofs.Math.Decide.{dec_lt}
use Rattle.std.proofs.Math.ListN.{get_or-eq_default}
use Rattle.theory.specs.Answer.{Answer, gives, refuses, Next, no_next}
use Rattle.layout.specs.declared.numbers.Numbers.{Numbers}
use Rattle.layout.specs.declared.refusal.Refusal.{Refusal}
use Rattle.filter.specs.declared.listing.Place.{Place}
use Rattle.filter.specs.declared.listing.Stepped.{Stepped}
use Rattle.layout.specs.Refusals.{number, number_some}
use Rattle.layout.specs.Records.{lowest_due, Answers, HoldsOf, shape_of}
use Rattle.layout.specs.Judging.{clear_whole}
use Rattle.filter.specs.Says.{begun_says, step_says, step_tells}
use Rattle.filter.specs.Asking.{holds_shows}
use Rattle.filter.specs.Lookup.{Shows}
use Rattle.filter.specs.Places.{stepped, nowhere, done, place_of, step_of, First, Steps, step_some, step_none, place_none}

-- a beginning is checked: the place after no steps
abbrev pub Begins : Numbers → List ℕ → Result Place Refusal → Type 0
Begins n s a = Answers n s (λ l. place_of n.qbits n.rbits l 0) (begun_says a)

-- step k gives the fingerprint with the number k, counted from 0, or is done
abbrev pub next_of : List ℕ → ℕ → Next
next_of l k = record { found = min 1 (length l - k); fingerprint = get_or l k 0 }

-- what a step says, and the place after it
pub record StepIs (r : Stepped) (a : Answer Next) (p : Place) : Type 0 where
  pub says : step_says r.step ≡ a
  pub place : r.place ≡ p

-- a step asks 1 to 5: refused, it leaves the place as it was; done stays done; and if the buffer is sound, after k steps it is step k
pub record Listed (n : Numbers) (s : List ℕ) (p : Place) (r : Stepped) : Type 0 where
  pub refused : 0 < lowest_due n s → StepIs r (refuses (lowest_due n s)) p
  pub stays : lowest_due n s ≡ 0 → p ≡ nowhere → StepIs r (gives no_next) nowhere
  pub right : lowest_due n s ≡ 0 → (l : List ℕ) → HoldsOf n s l → (k : ℕ) → p ≡ place_of n.qbits n.rbits l k → StepIs r (gives (next_of l k)) (place_of n.qbits n.rbits l (suc k))

-- ---- from the core
-- what a step says and leaves tells it
pub step_is_one : (a b : Stepped) (v : Answer Next) (p : Place) → StepIs a v p → StepIs b v p → a ≡ b
step_is_one a b v p x y =
    let e = step_tells a.step b.step (x.says ∙ sym y.says) in
    λ i. record { step = e i; place = (x.place ∙ sym y.place) i }

pub step_is : (q r : ℕ) (l : List ℕ) (k : ℕ) → StepIs (step_of q r l k) (gives (next_of l k)) (place_of q r l (suc k))
step_is q r l k = go (dec_lt k (length l))
  where
    go : Dec (k < length l) → StepIs (step_of q r l k) (gives (next_of l k)) (place_of q r l (suc k))
    go (yes b) =
        let e : 1 ≡ min 1 (length l - k) = omega arith in
        rw (step_some q r l k b) (record { says = ap (λ z. gives (record { found = z; fingerprint = get_or l k 0 })) e; place = refl })
    go (no b) =
        let e : 0 ≡ min 1 (length l - k) = omega arith in
        let d : 0 ≡ get_or l k 0 = sym (get_or-eq_default l 0 (omega arith)) in
        rw (step_none q r l k (omega arith)) (record { says = λ i. gives (record { found = e i; fingerprint = d i }); place = sym (place_none q r l (suc k) (omega arith)) })

module _ (n : Numbers) (s : List ℕ) (e : lowest_due n s ≡ 0) where
  shows : (l : List ℕ) → HoldsOf n s l → Shows (shape_of n) s l
  shows l h = holds_shows n s l (clear_whole n s e).widths h

  pub listed_core : (p : Place) (r : Stepped) → Steps (shape_of n) s p r → Listed n s p r
  listed_core p r c = record {
    refused = λ k. absurd (omega arith);
    stays = λ _ z. rw (c.stays z) (record { says = refl; place = refl });
    right = λ _ l h k z. rw (c.right l (shows l h) k z) (step_is n.qbits n.rbits l k);
  }

  pub begins_at : (p : Place) → First (shape_of n) s n.len p → (l : List ℕ) → HoldsOf n s l → gives p ≡ gives (place_of n.qbits n.rbits l 0)
  begins_at p f l h = ap gives (f l (shows l h) (sym h.many))

pub listed_refused : (n : Numbers) (s : List ℕ) (p : Place) (r : Refusal) → lowest_due n s ≡ number r → Listed n s p (stepped (Err r) p)
listed_refused n s p r e = record {
  refused = λ _. record { says = ap refuses (sym e); place = refl };
  stays = λ z _. absurd (omega (arith, number_some r));
  right = λ z _ _ _ _. absurd (omega (arith, number_some r));
}

-- a step from the place after k steps is step k
pub listed_step : (n : Numbers) (s l : List ℕ) → lowest_due n s ≡ 0 → HoldsOf n s l → (p : Place) (r : Stepped) → Listed n s p r → (k : ℕ) → p ≡ place_of n.qbits n.rbits l k
    → r ≡ step_of n.qbits n.rbits l k
listed_step n s l e h p r c k z = step_is_one r (step_of n.qbits n.rbits l k) _ _ (c.right e l h k z) (step_is n.qbits n.rbits l k)

-- and done stays done
pub listed_done : (n : Numbers) (s : List ℕ) → lowest_due n s ≡ 0 → (r : Stepped) → Listed n s nowhere r → r ≡ done
listed_done n s e r c = step_is_one r done _ _ (c.stays e refl) (record { says = refl; place = refl })
