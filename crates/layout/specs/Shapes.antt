-- What the constructor of a shape answers.
use Rattle.std.specs.Prelude.{ℕ, ◌≡◌, Result, Ok, Err}
use Rattle.theory.specs.Refusal.{widths_due}
use Rattle.layout.specs.declared.refusal.Refusal.{Refusal}
use Rattle.layout.specs.declared.shape.Shape.{Shape}
use Rattle.layout.specs.Refusals.{number}

-- the shape with these widths, if number 1 is not due; else number 1
abbrev pub ShapedAs : ℕ → ℕ → Result Shape Refusal → Type 0
ShapedAs q r (Ok s) = (widths_due q r ≡ 0) × (s.qbits ≡ q) × (s.rbits ≡ r)
ShapedAs q r (Err e) = widths_due q r ≡ number e
