-- Answers of growth and of insert with a spare as plain structs; a refusal gives back the record as given.
use Rattle.std.specs.Prelude.{ℕ, List, Result}
use Rattle.theory.specs.Answer.{number, values}
use Rattle.layout.specs.declared.numbers.Numbers.{Numbers}
use Rattle.layout.specs.declared.refusal.Refusal.{Refusal}
use Rattle.growth.specs.declared.spare.Placed.{Placed}
use Rattle.growth.specs.Says.{rebuilt_says, placed_in, placed_says}
use Rattle.growth.specs.Rebuilding.{Grows}
use Rattle.growth.specs.Spare.{InsertSpare, InsertSpareQuick}
use Rattle.capi.specs.Shown.{Shown}
use Rattle.capi.specs.declared.planning.Changed.{Changed}
use Rattle.capi.specs.declared.growing.SpareAnswer.{SpareAnswer}

-- the record of what was rebuilt, or the one given; the answer is always 0
abbrev pub rebuilt_of : Numbers → Result Numbers Refusal → Changed
rebuilt_of n a = record { number = number (rebuilt_says a); answer = 0; numbers = values n (rebuilt_says a) }

abbrev pub GrowOutcome : Numbers → List ℕ → List ℕ → Changed → List ℕ → Type 0
GrowOutcome n s d a t = Shown (λ answer. Grows n s d answer t) (rebuilt_of n) a

-- what an insert with a spare says; where it is refused, zeros and the record given
abbrev pub placed_of : Numbers → Result Placed Refusal → SpareAnswer
placed_of n a =
    let v = values (placed_in 0 0 n) (placed_says a) in
    record { number = number (placed_says a); answer = v.answer; in_spare = v.in_spare; numbers = v.numbers }

abbrev pub InsertSpareOutcome : Numbers → ℕ → ℕ → List ℕ → List ℕ → SpareAnswer → List ℕ → List ℕ → Type 0
InsertSpareOutcome n hash most s d a t e = Shown (λ answer. InsertSpare n hash most s d answer t e) (placed_of n) a

abbrev pub InsertSpareQuickOutcome : Numbers → ℕ → ℕ → List ℕ → List ℕ → SpareAnswer → List ℕ → List ℕ → Type 0
InsertSpareQuickOutcome n hash most s d a t e = Shown (λ answer. InsertSpareQuick n hash most s d answer t e) (placed_of n) a
