-- A buffer whose shape is allowed and whose length is the formula's; its views.
use Rattle.std.specs.Prelude.{ℕ, ◌≡◌, List}
use Rattle.theory.specs.Shape.{bytes, Widths}
use Rattle.theory.specs.Image.{Views}
use Rattle.theory.specs.number.Bytes.{le}
use Rattle.theory.specs.images.Block.{views}
use Rattle.layout.specs.declared.shape.Shape.{Shape}

pub record Whole (s : Shape) (size : ℕ) : Type 0 where
  pub widths : Widths s.qbits s.rbits
  pub fits : size ≡ bytes s.qbits s.rbits

-- the four views of a buffer
abbrev pub views_in : Shape → List ℕ → Views
views_in h s = views h.rbits (le s)
