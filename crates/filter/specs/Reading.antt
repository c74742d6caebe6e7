-- The promises of a reader, in those of the step.
use Rattle.std.specs.Prelude.{ℕ, ◌≡◌, List}
use Rattle.std.proofs.Common.{ap, subst, ◌∙◌}
use Rattle.std.specs.Borrow.{Bor}
use Rattle.layout.specs.declared.numbers.Numbers.{Numbers}
use Rattle.filter.specs.declared.listing.Place.{Place}
use Rattle.filter.specs.declared.reader.Reader.{Reader}
use Rattle.filter.specs.declared.reader.Two.{Two}
use Rattle.filter.specs.Places.{Step, stepped}
use Rattle.filter.specs.Listing.{Listed}

-- the reader took a step: the same buffer and numbers, at the place after it
pub record Moved (r : Reader) (a : Step) (r' : Reader) : Type 0 where
  pub listed : Listed r.numbers r.buf.now r.place (stepped a r'.place)
  pub kept : r' ≡ record { buf = r.buf; numbers = r.numbers; place = r'.place }

-- two steps one after the other
pub record TwoListed (n : Numbers) (s : List ℕ) (p : Place) (t : Two) : Type 0 where
  pub between : Place
  pub first : Listed n s p (stepped t.first between)
  pub second : Listed n s between (stepped t.second t.place)

-- a reader made of a buffer, numbers and a place takes two steps
pub two_told : (s : Bor (List ℕ)) (n : Numbers) (p : Place) (r h h' : Reader) (a a' : Step) → r.buf ≡ s → r.numbers ≡ n → r.place ≡ p
    → Moved r a h → Moved h a' h' → TwoListed n s.now p (record { first = a; second = a'; place = h'.place })
two_told s n p r h h' a a' b c d e e' = record {
  between = h.place;
  first = subst (λ (y : Reader). Listed y.numbers y.buf.now y.place (stepped a h.place)) made e.listed;
  second = subst (λ (y : Reader). Listed y.numbers y.buf.now y.place (stepped a' h'.place)) moved e'.listed;
}
  where
    made : r ≡ record { buf = s; numbers = n; place = p }
    made = λ i. record { buf = b i; numbers = c i; place = d i }

    moved : h ≡ record { buf = s; numbers = n; place = h.place }
    moved = e.kept ∙ ap (λ (y : Reader). record { buf = y.buf; numbers = y.numbers; place = h.place }) made
