-- Answers of a listing as plain structs.
use Rattle.std.specs.Prelude.{ℕ, List, Result}
use Rattle.theory.specs.Answer.{number, values, no_next}
use Rattle.layout.specs.declared.numbers.Numbers.{Numbers}
use Rattle.layout.specs.declared.refusal.Refusal.{Refusal}
use Rattle.filter.specs.declared.listing.Place.{Place}
use Rattle.filter.specs.declared.listing.Stepped.{Stepped}
use Rattle.filter.specs.Says.{begun_says, step_says}
use Rattle.filter.specs.Places.{Step, nowhere}
use Rattle.filter.specs.Listing.{Begins, Listed}
use Rattle.capi.specs.Shown.{Shown}
use Rattle.capi.specs.Reading.{record_of}
use Rattle.capi.specs.declared.reading.Sizes.{Sizes}
use Rattle.capi.specs.declared.listing.First.{First}
use Rattle.capi.specs.declared.listing.Next.{Next}

-- the first place, and zeros where it is refused
abbrev pub begun_of : Result Place Refusal → First
begun_of a = record { number = number (begun_says a); place = values nowhere (begun_says a) }

abbrev pub BeginOutcome : Numbers → List ℕ → First → Type 0
BeginOutcome n s r = Shown (Begins n s) begun_of r

-- what a step says, with zeros where it is refused, and the place after it
abbrev pub next_of : Place → Step → Next
next_of p a =
    let v = values no_next (step_says a) in
    record { number = number (step_says a); found = v.found; fingerprint = v.fingerprint; place = p }

abbrev pub StepOutcome : Numbers → List ℕ → Place → Next → Type 0
StepOutcome n s p r = Shown (Listed n s p) (λ answer. next_of answer.place answer.step) r

-- whichever family the record is of
pub listed_any : (n : Sizes) (family other : ℕ) (s : List ℕ) (p : Place) (r : Stepped) → Listed (record_of n family) s p r → Listed (record_of n other) s p r
listed_any n family other s p r h = record { refused = h.refused; stays = h.stays; right = h.right }
