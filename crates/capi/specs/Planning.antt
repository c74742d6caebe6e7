-- Answers as plain structs: a refusal's number, or 0 and the values (docs/RULES.md, "Refusals").
use Rattle.std.specs.Prelude.{ℕ, ◌^◌, false, List, pos, Float, Result, Ok, Err}
use Rattle.std.specs.Float.{fin}
use Rattle.theory.specs.Shape.{bytes}
use Rattle.theory.specs.Select.{Position, place, none}
use Rattle.bits.specs.Select.{Selected, position_of}
use Rattle.layout.specs.declared.numbers.Numbers.{Numbers}
use Rattle.layout.specs.declared.planning.FilterSpecs.{FilterSpecs}
use Rattle.layout.specs.declared.refusal.Refusal.{Refusal}
use Rattle.layout.specs.declared.shape.Shape.{Shape}
use Rattle.layout.specs.Refusals.{number}
use Rattle.layout.specs.Records.{empty_record}
use Rattle.layout.specs.Plans.{NeededAs, SpecifiedAs, PlannedAs}
use Rattle.layout.specs.Shapes.{ShapedAs}
use Rattle.layout.specs.Fresh.{MadeAs}
use Rattle.capi.specs.Shown.{Shown}
use Rattle.capi.specs.declared.planning.Outcome.{Outcome}
use Rattle.capi.specs.declared.planning.Specs.{Specs}
use Rattle.capi.specs.declared.planning.Plan.{Plan}
use Rattle.capi.specs.declared.planning.Changed.{Changed}

-- a place, or 64 for none
abbrev pub digit_of : Position → ℕ
digit_of (place p) = p
digit_of none = 64

abbrev pub PositionOf : ℕ → ℕ → ℕ → Type 0
PositionOf x n r = Shown (Selected x n) (λ answer. digit_of (position_of answer)) r

-- the slots of a width, or a number
abbrev pub needed_of : Result ℕ Refusal → Outcome
needed_of (Ok q) = record { number = 0; value = 2 ^ q }
needed_of (Err e) = record { number = number e; value = 0 }

abbrev pub NeededOutcome : ℕ → Outcome → Type 0
NeededOutcome c r = Shown (NeededAs c) needed_of r

abbrev pub specs_of : Result FilterSpecs Refusal → Specs
specs_of (Ok s) = record { number = 0; max_capacity = s.max_capacity; max_error_ratio = s.max_error_ratio; bits_per_item = s.bits_per_item; memory_bytes_min = s.memory_bytes_min; memory_bytes_max = s.memory_bytes_max; fingerprint_bits = s.fingerprint_bits }
specs_of (Err e) = record { number = number e; max_capacity = 0; max_error_ratio = fin false 0 (pos 0); bits_per_item = fin false 0 (pos 0); memory_bytes_min = 0; memory_bytes_max = 0; fingerprint_bits = 0 }

abbrev pub SpecsOutcome : ℕ → Float → Specs → Type 0
SpecsOutcome c rate r = Shown (SpecifiedAs c rate) specs_of r

abbrev pub plan_of : Result (Shape × ℕ) Refusal → Plan
plan_of (Ok p) = record { number = 0; qbits = p.0.qbits; rbits = p.0.rbits; max_qbits = p.1 }
plan_of (Err e) = record { number = number e; qbits = 0; rbits = 0; max_qbits = 0 }

abbrev pub PlanOutcome : ℕ → ℕ → Float → Plan → Type 0
PlanOutcome initial most rate r = Shown (PlannedAs initial most rate) plan_of r

abbrev pub length_of : Result Shape Refusal → Outcome
length_of (Ok h) = record { number = 0; value = bytes h.qbits h.rbits }
length_of (Err e) = record { number = number e; value = 0 }

abbrev pub LengthOutcome : ℕ → ℕ → Outcome → Type 0
LengthOutcome q r a = Shown (ShapedAs q r) length_of a

-- a refusal gives back the widths and the family asked, with len 0
abbrev pub fresh_of : ℕ → ℕ → ℕ → ℕ → Result Numbers Refusal → Changed
fresh_of q r mx family (Ok n) = record { number = 0; answer = 0; numbers = n }
fresh_of q r mx family (Err e) = record { number = number e; answer = 0; numbers = empty_record q r mx family }

abbrev pub FreshOutcome : List ℕ → ℕ → ℕ → ℕ → ℕ → Changed → List ℕ → Type 0
FreshOutcome s q r mx family a t = Shown (λ answer. MadeAs s q r mx family answer t) (fresh_of q r mx family) a
