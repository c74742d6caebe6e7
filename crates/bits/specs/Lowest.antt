-- What `lowest_from` promises: the lowest one at digit i or above.
use Rattle.std.specs.Prelude.{Option, Some, None, ◌≡◌, ℕ, ◌<◌, ◌≤◌}
use Rattle.theory.specs.number.Field.{field}

-- no ones from digit i to below digit j
abbrev pub Zeros : ℕ → ℕ → ℕ → Type 0
Zeros x i j = (p : ℕ) → i ≤ p → p < j → field x p 1 ≡ 0

abbrev pub LowestFrom : ℕ → ℕ → Option ℕ → Type 0
LowestFrom x i (Some p) = (i ≤ p) × (p < 64) × (field x p 1 ≡ 1) × Zeros x i p
LowestFrom x i None = Zeros x i 64
