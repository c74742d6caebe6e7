-- What the check answers.
use Rattle.std.specs.Prelude.{ℕ, ◌<◌, ◌≡◌, ◌⊎◌, List, Result, Ok, Err}
use Rattle.theory.specs.check.Step.{Cursor, Answer}
use Rattle.layout.specs.declared.numbers.Numbers.{Numbers}
use Rattle.layout.specs.Records.{lowest_due, SoundOf}
use Rattle.layout.specs.declared.refusal.Refusal.{Refusal}
use Rattle.layout.specs.Refusals.{number}

-- sound, or the lowest of numbers 1 to 6 that is due
abbrev pub Judged : Numbers → List ℕ → Result Unit Refusal → Type 0
Judged n s (Ok _) = SoundOf n s
Judged n s (Err e) = ((0 < lowest_due n s) × (number e ≡ lowest_due n s)) ⊎ ((lowest_due n s ≡ 0) × (¬ (SoundOf n s)) × (number e ≡ 6))

-- of two filters: both are sound, or the first one's number, or the second one's where the first is sound
abbrev pub JudgedBoth : Numbers → List ℕ → Numbers → List ℕ → Result Unit Refusal → Type 0
JudgedBoth n s m o (Ok _) = SoundOf n s × SoundOf m o
JudgedBoth n s m o (Err e) = Judged n s (Err e) ⊎ (SoundOf n s × Judged m o (Err e))

-- what the last cursor says, in the same words
abbrev pub Answered : ℕ → ℕ → Cursor → Result Unit Refusal → Type 0
Answered B n c (Ok _) = Answer B n c
Answered B n c (Err e) = (¬ (Answer B n c)) × (number e ≡ 6)
