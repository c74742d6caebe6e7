-- What a fresh filter answers and leaves in the buffer: the number and the values for each case, and that what is made is sound (docs/RULES.md, "Planning").
use Rattle.std.specs.Prelude.{ℕ, ◌≡◌, List, [], length, Result, Ok, Err}
use Rattle.theory.specs.Image.{image}
use Rattle.theory.specs.Planning.{fresh_due}
use Rattle.theory.specs.refusals.PlanRefused.{none_fresh}
use Rattle.theory.specs.images.EmptyImage.{sound_empty, holds_empty}
use Rattle.layout.specs.Records.{empty_record, SoundOf, HoldsOf}
use Rattle.layout.specs.declared.numbers.Numbers.{Numbers}
use Rattle.layout.specs.declared.refusal.Refusal.{Refusal}
use Rattle.layout.specs.Refusals.{number}

-- the widths and the family asked for with len 0, and the image of the empty list, if none of 1, 4 and 12 is due; else the first that is, and the buffer as it was
abbrev pub MadeAs : List ℕ → ℕ → ℕ → ℕ → ℕ → Result Numbers Refusal → List ℕ → Type 0
MadeAs s q r mx family (Ok n) t = (fresh_due q r mx (length s) ≡ 0) × (n ≡ empty_record q r mx family) × (t ≡ image q r [])
MadeAs s q r mx family (Err e) t = (fresh_due q r mx (length s) ≡ number e) × (t ≡ s)

-- a fresh filter is sound and holds nothing
pub made_sound : (s : List ℕ) (q r mx family : ℕ) (n : Numbers) (t : List ℕ) → MadeAs s q r mx family (Ok n) t
    → SoundOf n t × HoldsOf n t []
made_sound s q r mx family n t h =
    let e = none_fresh q r mx (length s) h.0 in
    rw (h.1, h.2) (sound_empty q r mx e.0 e.1, holds_empty q r)
