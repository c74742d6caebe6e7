-- What select finds: the position of the n-th one of a word, counted from 0, or none. docs/RULES.md, "Select".
use Rattle.std.specs.Prelude.{ℕ, ◌≤◌, ◌<◌, ◌≡◌}
use Rattle.theory.specs.number.Field.{field}
use Rattle.theory.specs.number.Count.{rank}

-- a place in the word, or none
pub data Position : Type 0 where
  place : ℕ → Position
  none : Position

-- the position of the n-th one of x: the digit there is 1 and n ones stand before it; there is none if x has no more than n ones
abbrev pub Selects : ℕ → ℕ → Position → Type 0
Selects x n (place p) = (p < 64) × (field x p 1 ≡ 1) × (rank x p ≡ n)
Selects x n none = rank x 64 ≤ n
