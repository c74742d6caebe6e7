-- What is said of a lent buffer of whole blocks: its slots and its four views.
use Rattle.std.specs.Prelude.{ℕ}
use Rattle.theory.specs.Shape.{slots}
use Rattle.theory.specs.Image.{Views}
use Rattle.layout.specs.Whole.{views_in}
use Rattle.layout.specs.declared.blocks.Blocks.{Blocks}

abbrev pub slots_of : Blocks → ℕ
slots_of b = slots b.shape.qbits

abbrev pub views_of : Blocks → Views
views_of b = views_in b.shape b.buf.now
