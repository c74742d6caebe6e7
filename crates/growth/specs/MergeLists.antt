-- What a merge inserts, list by list, and what needs capacity. Assumes nothing.
use Prim.Native.Nat.{ℕ, zero, suc, ◌+◌, ◌^◌, ◌<◌, max}
use Rattle.std.specs.Prelude.{◌≡◌, refl, ◌≢◌, List, [], map}
use Rattle.std.proofs.Common.{sym, ap, ◌∙◌, arith}
use Rattle.std.proofs.Math.ListN.{length}
use Rattle.std.proofs.lemmas.List.{length-map}
use Rattle.theory.specs.Shape.{fingerprint}
use Rattle.theory.specs.Holding.{Ascending, Under}
use Rattle.theory.specs.Joining.{added_once, joined, taken, wanted}
use Rattle.theory.specs.list.Adding.{added_length}
use Rattle.theory.specs.list.MergeLength.{own_of}
use Rattle.theory.specs.list.UpTo.{added_up_to, up_to_one, up_to_all, added_alone, cut_same}
use Rattle.layout.specs.Judging.{clear_of}
use Rattle.layout.specs.declared.numbers.Numbers.{Numbers}
use Rattle.layout.specs.declared.shape.Shape.{Shape}
use Rattle.filter.specs.Asking.{holds_shows}
use Rattle.filter.specs.Lookup.{Shows}
use Rattle.growth.specs.declared.source.Source.{Source}
use Rattle.growth.specs.Reading.{Reads, reads_shows}
use Rattle.growth.specs.Take.{taken_in}
use Rattle.growth.specs.Union.{United}
use Rattle.growth.specs.Rebuilding.{taken_all}
use Rattle.layout.specs.Records.{HoldsOf, lowest_due, shape_of}
use Rattle.growth.specs.Merging.{Wants, most_of}

module _ (n : Numbers) (s : List ℕ) (m : Numbers) (o : List ℕ) (e : lowest_due n s ≡ 0) (f : lowest_due m o ≡ 0) where
  pub shows_self : (l : List ℕ) → HoldsOf n s l → Shows (shape_of n) s l
  shows_self l w = holds_shows n s l (clear_of n s e).widths w

  pub shows_other : (l : List ℕ) → HoldsOf m o l → Shows (shape_of m) o l
  shows_other l w = holds_shows m o l (clear_of m o f).widths w

  pub wants_sum : (keep : ℕ) → keep ≢ 0 → Wants n s m o keep (n.len + m.len)
  unfolding wanted joined
  wants_sum zero k = absurd (k refl)
  wants_sum (suc keep) k = record { right = λ la lb x y. omega (arith, added_length la lb, x.many, y.many) }

  pub wants_union : (keep : ℕ) → keep ≡ 0 → (a b : Source) → Reads n s a → Reads m o b → (r : ℕ) → United a b r → Wants n s m o keep (max r (max n.len m.len))
  unfolding wanted
  wants_union zero k a b ra rb r u = record {
    right = λ la lb x y.
        let g : r ≡ length (joined 0 la lb) = u.right la lb (reads_shows n s a ra e la x) (reads_shows m o b rb f lb y) (x.many ∙ sym ra.len) (y.many ∙ sym rb.len) in
        omega (arith, g, x.many, y.many);
  }
  wants_union (suc keep) k a b ra rb r u = absurd (omega arith)

-- ---- what the inserts of a merge come to
abbrev pub Under-width : Shape → List ℕ → Type 0
Under-width h l = Under (2 ^ (h.qbits + h.rbits)) l

pub joins_own : (h : Shape) (keep : ℕ) (la : List ℕ) → Under-width h la → Ascending la → length la < 2 ^ 60 → taken_in h (most_of keep) [] la ≡ own_of keep la
joins_own h zero la u a n = ap (added_up_to 1 []) (cut_same h.qbits h.rbits la u) ∙ up_to_one [] la
joins_own h (suc keep) la u a n = taken_all h 18446744073709551615 [] la u (omega arith) ∙ added_alone la a

pub joins_both : (h : Shape) (keep : ℕ) (la lb : List ℕ) → Under-width h lb → length la < 2 ^ 60 → length lb < 2 ^ 60 → taken_in h (most_of keep) (own_of keep la) lb ≡ joined keep la lb
unfolding joined
joins_both h zero la lb u n k = ap (added_up_to 1 (added_once [] la)) (cut_same h.qbits h.rbits lb u) ∙ up_to_one (added_once [] la) lb
joins_both h (suc keep) la lb u n k = taken_all h 18446744073709551615 la lb u (omega arith)

pub takes_wider : (h : Shape) (keep : ℕ) (la lb : List ℕ) → length la < 2 ^ 60 → length lb < 2 ^ 60 → taken_in h (most_of keep) la lb ≡ taken keep h.qbits h.rbits la lb
unfolding taken
takes_wider h zero la lb n k = up_to_one la (map (fingerprint h.qbits h.rbits) lb)
takes_wider h (suc keep) la lb n k =
    up_to_all 18446744073709551615 la (map (fingerprint h.qbits h.rbits) lb) (omega (arith, length-map lb (fingerprint h.qbits h.rbits)))
