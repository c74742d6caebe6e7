-- Number 7 of a merge whose other side is wider.
use Rattle.std.specs.Prelude.{ℕ, suc, Result, Ok, Err, ◌+◌, ◌≤◌, ◌<◌, ◌≡◌, ◌≢◌, List, length}
use Rattle.std.proofs.Common.{sym, arith}
use Rattle.theory.specs.Shape.{capacity}
use Rattle.theory.specs.list.MergeLength.{few_due, past_due, taken_most, taken_length}
use Rattle.theory.specs.Joining.{taken, taken_due, added_once}
use Rattle.layout.specs.declared.refusal.Refusal.{Refusal}
use Rattle.layout.specs.declared.refusal.Refusal.TheVariants.{NoRoom}
use Rattle.layout.specs.Refusals.{Asked}
use Rattle.growth.specs.declared.source.Source.{Source}
use Rattle.growth.specs.Adding.{ShownBy, Adds, cuts, held_shown}

abbrev pub WiderDue : Source → Source → ℕ → Result Unit Refusal → Type 0
WiderDue a b keep r = (la lb : List ℕ) → ShownBy a la → ShownBy b lb → length la ≡ a.len → length lb ≡ b.len
    → Asked (taken_due a.lent.shape.qbits la (taken keep a.lent.shape.qbits a.lent.shape.rbits la lb)) r

-- `enough` is the least number of added copies that passes capacity
module _ (a b : Source) (keep enough : ℕ) (least : a.len + enough ≡ suc (capacity a.lent.shape.qbits)) where
  -- b has too few
  pub wider_few : b.len < enough → WiderDue a b keep (Ok tt)
  wider_few h la lb wa wb ea eb =
      sym (few_due a.lent.shape.qbits la _ (omega (arith, ea, eb, least, taken_most keep a.lent.shape.qbits a.lent.shape.rbits la lb)))

  pub wider_all : a.len ≤ capacity a.lent.shape.qbits → enough ≤ b.len → keep ≢ 0 → WiderDue a b keep (Err NoRoom)
  wider_all few h k la lb wa wb ea eb =
      sym (past_due a.lent.shape.qbits la _ (omega (arith, ea, few)) (omega (arith, ea, eb, least, taken_length keep a.lent.shape.qbits a.lent.shape.rbits la lb k)))

  -- without duplicates, by the count
  module _ (r : ℕ) (k : keep ≡ 0) (x : Adds a b enough r) where
    pub wider_room : r < enough → WiderDue a b keep (Ok tt)
    unfolding taken
    wider_room h la lb wa wb ea eb =
        rw k (sym (few_due a.lent.shape.qbits la (added_once la (cuts a.lent.shape lb)) (omega (arith, ea, least, x.right la lb (held_shown a la ea wa) wb (sym eb)))))

    pub wider_passed : a.len ≤ capacity a.lent.shape.qbits → enough ≤ r → WiderDue a b keep (Err NoRoom)
    unfolding taken
    wider_passed few h la lb wa wb ea eb =
        rw k (sym (past_due a.lent.shape.qbits la (added_once la (cuts a.lent.shape lb)) (omega (arith, ea, few)) (omega (arith, ea, least, x.right la lb (held_shown a la ea wa) wb (sym eb)))))
