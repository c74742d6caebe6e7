-- What a source is that was made of a filter: its list is what the filter holds.
use Rattle.std.specs.Prelude.{ℕ, ◌≡◌, List}
use Rattle.layout.specs.declared.numbers.Numbers.{Numbers}
use Rattle.layout.specs.declared.shape.Shape.{Shape}
use Rattle.layout.specs.Records.{shape_of, lowest_due, HoldsOf}
use Rattle.layout.specs.Judging.{clear_of}
use Rattle.filter.specs.Asking.{holds_shows}
use Rattle.growth.specs.declared.source.Source.{Source}
use Rattle.growth.specs.Adding.{ShownBy}
use Rattle.growth.specs.Take.{TakesIn}

-- the bytes s, read by the record n
pub record Reads (n : Numbers) (s : List ℕ) (a : Source) : Type 0 where
  pub bytes : a.lent.buf.now ≡ s
  pub shape : a.lent.shape ≡ shape_of n
  pub len : a.len ≡ n.len

module _ (n : Numbers) (s : List ℕ) (a : Source) (w : Reads n s a) where
  -- it shows what the filter holds
  pub reads_shows : lowest_due n s ≡ 0 → (l : List ℕ) → HoldsOf n s l → ShownBy a l
  reads_shows e l h = rw (w.shape, w.bytes) (holds_shows n s l (clear_of n s e).widths h)

  -- what is taken in of it is taken in of the filter
  pub reads_takes : (h : Shape) (d : List ℕ) (len most r : ℕ) (t : List ℕ) → TakesIn a.lent.shape a.lent.buf.now a.len h d len most r t → TakesIn (shape_of n) s n.len h d len most r t
  reads_takes h d len most r t g = rw (w.shape, w.bytes, w.len) at g
