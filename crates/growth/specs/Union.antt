-- The length of a merge without duplicates at equal widths.
use Rattle.std.specs.Prelude.{ℕ, ◌+◌, ◌-◌, ◌≤◌, min, ◌≡◌, refl, List, [], length}
use Rattle.std.proofs.Common.{sym, arith}
use Rattle.theory.specs.list.Copies.{copies_nil}
use Rattle.theory.specs.list.Adding.{copies_once, once_length}
use Rattle.theory.specs.Joining.{joined, added_once}
use Rattle.theory.specs.list.Firsts.{once_alike}
use Rattle.growth.specs.declared.source.Source.{Source}
use Rattle.growth.specs.Adding.{ShownBy, Adds, cuts_same, held_shown}

pub record United (a b : Source) (r : ℕ) : Type 0 where
  pub bound : r ≤ a.len + b.len
  pub right : (la lb : List ℕ) → ShownBy a la → ShownBy b lb → length la ≡ a.len → length lb ≡ b.len → r ≡ length (joined 0 la lb)

-- what a adds to nothing, and what b adds to a
pub united : (none a b : Source) (r r' : ℕ) → none.len ≡ 0 → none.lent.shape ≡ a.lent.shape → b.lent.shape.qbits + b.lent.shape.rbits ≤ a.lent.shape.qbits + a.lent.shape.rbits
    → Adds none a a.len r → Adds a b b.len r' → United a b (r + r')
unfolding joined
united none a b r r' nothing alike few x y = record { bound = omega (arith, x.bound, y.bound); right = counted }
  where
    counted : (la lb : List ℕ) → ShownBy a la → ShownBy b lb → length la ≡ a.len → length lb ≡ b.len → r + r' ≡ length (joined 0 la lb)
    counted la lb wa wb ea eb =
        let own : r ≡ min a.len (length (added_once [] la) - 0) = rw (alike, cuts_same a.lent.shape a la (omega arith) wa) at (x.right [] la (record { none = λ _. refl; some = λ h. absurd (omega arith) }) wa (sym ea)) in
        let other : r' ≡ min b.len (length (added_once la lb) - length la) = rw (cuts_same a.lent.shape b lb few wb) at (y.right la lb (held_shown a la ea wa) wb (sym eb)) in
        omega (arith, own, other, once_length [] la, once_length la lb, once_alike (added_once [] la) la lb (λ g. omega (arith, copies_once g [] la, copies_nil g)))
