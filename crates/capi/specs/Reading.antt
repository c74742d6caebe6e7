-- What a reading is handed, and answers of the check, lookup and count as plain structs.
use Rattle.std.specs.Prelude.{ℕ, List, Result, Ok, Err}
use Rattle.theory.specs.Answer.{number, values, not_looked}
use Rattle.layout.specs.declared.numbers.Numbers.{Numbers}
use Rattle.layout.specs.Records.{empty_record, with_len}
use Rattle.layout.specs.declared.refusal.Refusal.{Refusal}
use Rattle.layout.specs.Refusals.{number as number_of}
use Rattle.filter.specs.declared.lookup.Lookup.{Lookup}
use Rattle.layout.specs.Verdicts.{Judged}
use Rattle.filter.specs.Says.{lookup_says, counting_says}
use Rattle.filter.specs.Asking.{Contains, ContainsQuick, Count, CountQuick}
use Rattle.capi.specs.Shown.{Shown}
use Rattle.capi.specs.declared.planning.Outcome.{Outcome}
use Rattle.capi.specs.declared.reading.Looked.{Looked}
use Rattle.capi.specs.declared.reading.Sizes.{Sizes}

-- the record of these sizes and a family; and what is promised of a record of these sizes whichever family it is of
abbrev pub record_of : Sizes → ℕ → Numbers
record_of n family = with_len (empty_record n.qbits n.rbits n.max_qbits family) n.len

abbrev pub OfAny : Sizes → (Numbers → Type 0) → Type 0
OfAny n P = (family : ℕ) → P (record_of n family)

-- 0 for sound, or the number
abbrev pub verdict_of : Result Unit Refusal → ℕ
verdict_of (Ok _) = 0
verdict_of (Err e) = number_of e

abbrev pub CheckOutcome : Numbers → List ℕ → ℕ → Type 0
CheckOutcome n s r = Shown (Judged n s) verdict_of r

-- whichever family the record is of
pub judged_any : (n : Sizes) (family other : ℕ) (s : List ℕ) (v : Result Unit Refusal) → Judged (record_of n family) s v → Judged (record_of n other) s v
judged_any n family other s (Ok _) h = h
judged_any n family other s (Err e) h = h

-- what a lookup says, and zeros where it is refused
abbrev pub looked_of : Result Lookup Refusal → Looked
looked_of a =
    let v = values not_looked (lookup_says a) in
    record { number = number (lookup_says a); held = v.held; compared = v.compared }

abbrev pub ContainsOutcome : Numbers → List ℕ → ℕ → Looked → Type 0
ContainsOutcome n s hash r = Shown (Contains n s hash) looked_of r

abbrev pub ContainsQuickOutcome : Numbers → List ℕ → ℕ → Looked → Type 0
ContainsQuickOutcome n s hash r = Shown (ContainsQuick n s hash) looked_of r

abbrev pub counted_of : Result ℕ Refusal → Outcome
counted_of a = record { number = number (counting_says a); value = values 0 (counting_says a) }

abbrev pub CountOutcome : Numbers → List ℕ → ℕ → Outcome → Type 0
CountOutcome n s hash r = Shown (Count n s hash) counted_of r

abbrev pub CountQuickOutcome : Numbers → List ℕ → ℕ → Outcome → Type 0
CountQuickOutcome n s hash r = Shown (CountQuick n s hash) counted_of r
