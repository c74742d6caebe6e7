-- Answers of insert and remove as plain structs; a refusal gives back the record as given.
use Rattle.std.specs.Prelude.{ℕ, List, Option, Result}
use Rattle.theory.specs.Answer.{Answer, number, values}
use Rattle.layout.specs.declared.numbers.Numbers.{Numbers}
use Rattle.layout.specs.declared.refusal.Refusal.{Refusal}
use Rattle.layout.specs.Records.{changed}
use Rattle.layout.specs.Records as records
use Rattle.writing.specs.Says.{inserted_says, removed_says}
use Rattle.writing.specs.Writing.{Insert, InsertQuick, Remove, RemoveQuick}
use Rattle.capi.specs.Shown.{Shown}
use Rattle.capi.specs.declared.planning.Changed.{Changed}

-- what a writer says; where it is refused, 0 and the record given
abbrev pub changed_of : Numbers → Answer records.Changed → Changed
changed_of n a =
    let v = values (changed 0 n) a in
    record { number = number a; answer = v.answer; numbers = v.numbers }

abbrev pub inserted_of : Numbers → Result (ℕ × Numbers) Refusal → Changed
inserted_of n a = changed_of n (inserted_says a)

abbrev pub InsertOutcome : Numbers → ℕ → ℕ → List ℕ → Changed → List ℕ → Type 0
InsertOutcome n hash most s a t = Shown (λ answer. Insert n hash most s answer t) (inserted_of n) a

abbrev pub InsertQuickOutcome : Numbers → ℕ → ℕ → List ℕ → Changed → List ℕ → Type 0
InsertQuickOutcome n hash most s a t = Shown (λ answer. InsertQuick n hash most s answer t) (inserted_of n) a

-- the answer is 1 for true, 0 for false
abbrev pub removed_of : Numbers → Result (Option Numbers) Refusal → Changed
removed_of n a = changed_of n (removed_says n a)

abbrev pub RemoveOutcome : Numbers → ℕ → List ℕ → Changed → List ℕ → Type 0
RemoveOutcome n hash s a t = Shown (λ answer. Remove n hash s answer t) (removed_of n) a

abbrev pub RemoveQuickOutcome : Numbers → ℕ → List ℕ → Changed → List ℕ → Type 0
RemoveQuickOutcome n hash s a t = Shown (λ answer. RemoveQuick n hash s answer t) (removed_of n) a
