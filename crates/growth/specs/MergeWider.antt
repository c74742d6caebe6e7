-- A merge with a wider other: 7, 12, or its list taken into a copy of self. Assumes nothing.
use Rattle.std.specs.Prelude.{ℕ, Result, Ok, Err, ◌^◌, ◌≤◌, ◌<◌, ◌≡◌, ◌≢◌, List, length}
use Rattle.std.proofs.Common.{sym, ap, subst, ◌∙◌, arith}
use Rattle.theory.specs.Shape.{capacity, bytes}
use Rattle.theory.specs.Image.{image}
use Rattle.theory.specs.Joining.{taken, taken_due}
use Rattle.theory.specs.number.Bytes.{Bytes}
use Rattle.theory.specs.refusals.PlanRefused.{destination_none, destination_due_lem}
use Rattle.theory.specs.refusals.ByNumber.{else_none, else_some}
use Rattle.layout.specs.Judging.{clear_of, held_within}
use Rattle.theory.specs.plan.Limits.{few}
use Rattle.theory.specs.list.MergeLength.{none_few}
use Rattle.layout.specs.declared.numbers.Numbers.{Numbers}
use Rattle.layout.specs.declared.refusal.Refusal.{Refusal}
use Rattle.layout.specs.declared.refusal.Refusal.TheVariants.{DestinationLength}
use Rattle.layout.specs.Refusals.{number, number_some, Asked}
use Rattle.filter.specs.Lookup.{Shows}
use Rattle.growth.specs.declared.source.Source.{Source}
use Rattle.growth.specs.Reading.{Reads, reads_shows}
use Rattle.growth.specs.Take.{SameTail, TakesIn}
use Rattle.growth.specs.WiderDue.{WiderDue}
use Rattle.growth.specs.Rebuilding.{lands_image}
use Rattle.layout.specs.Records.{shape_of, with_len, lowest_due, HoldsOf}
use Rattle.layout.specs.Outcomes.{leaves_refused, leaves_done}
use Rattle.growth.specs.Merging.{MergesWider, most_of}
use Rattle.growth.specs.MergeLists.{shows_self, takes_wider}

module _ (n : Numbers) (s : List ℕ) (m : Numbers) (o : List ℕ) (e : lowest_due n s ≡ 0) (f : lowest_due m o ≡ 0) (keep : ℕ)
    (a b : Source) (ra : Reads n s a) (rb : Reads m o b) (d : List ℕ) where
  abbrev all : List ℕ → List ℕ → List ℕ
  all la lb = taken keep n.qbits n.rbits la lb

  is_due : (k : Result Unit Refusal) → WiderDue a b keep k → (la lb : List ℕ) → HoldsOf n s la → HoldsOf m o lb → Asked (taken_due n.qbits la (all la lb)) k
  is_due k due la lb x y = rw ra.shape at (due la lb (reads_shows n s a ra e la x) (reads_shows m o b rb f lb y) (x.many ∙ sym ra.len) (y.many ∙ sym rb.len))

  pub wider_seven : (k : Refusal) → WiderDue a b keep (Err k) → MergesWider n s m o keep d (Err k) d
  wider_seven k due la lb x y =
      let g = is_due (Err k) due la lb x y in
      leaves_refused _ (with_len n (length (all la lb))) _ (all la lb) d (number k) (else_some (taken_due n.qbits la (all la lb)) _ (omega (arith, g, number_some k)) ∙ g) (number_some k)

  module _ (u : Unit) (due : WiderDue a b keep (Ok u)) where
    none : (la lb : List ℕ) → HoldsOf n s la → HoldsOf m o lb → taken_due n.qbits la (all la lb) ≡ 0
    none = is_due (Ok u) due

    size_is : length s ≡ bytes n.qbits n.rbits
    size_is = (clear_of n s e).size_is

    pub wider_twelve : length d ≢ length s → MergesWider n s m o keep d (Err DestinationLength) d
    wider_twelve h la lb x y =
        leaves_refused _ (with_len n (length (all la lb))) _ (all la lb) d 12
        (else_none (taken_due n.qbits la (all la lb)) _ (none la lb x y) ∙ destination_due_lem n.qbits n.rbits (length d) (λ z. h (z ∙ sym size_is))) (omega arith)

    -- the result does not pass capacity
    room : (la lb : List ℕ) → HoldsOf n s la → HoldsOf m o lb → length (all la lb) ≤ capacity n.qbits
    room la lb x y = none_few n.qbits la (all la lb) (none la lb x y) (held_within n s la e x)

    pub wider_built : length d ≡ length s → (len : ℕ) (t : List ℕ) → Bytes t → length t ≡ length d → TakesIn b.lent.shape b.lent.buf.now b.len (shape_of n) s n.len (most_of keep) len t
        → MergesWider n s m o keep d (Ok (with_len n len)) t
    wider_built same len t bytes size g la lb x y =
        let h = shape_of n in
        let na : length la < 2 ^ 60 = omega (arith, x.many, few _ _ _ _ _ e) in
        let nb : length lb < 2 ^ 60 = omega (arith, y.many, few _ _ _ _ _ f) in
        let is = takes_wider h keep la lb na nb in
        let r = g.right la lb (reads_shows m o b rb f lb y) (rb.len ∙ sym y.many) (shows_self n s m o e f la x) (sym x.many) (omega (arith, ap length is, room la lb x y)) in
        let tail : SameTail h (image n.qbits n.rbits la) t = subst (λ (z : List ℕ). SameTail h z t) x.bytes g.tail in
        leaves_done _ (with_len n (length (all la lb))) _ (all la lb) d
        (else_none (taken_due n.qbits la (all la lb)) _ (none la lb x y) ∙ destination_none n.qbits n.rbits (length d) (same ∙ size_is)) (with_len n len) (ap (with_len n) (r.1 ∙ ap length is)) t
        (lands_image h (clear_of n s e).widths.low la (all la lb) t bytes (size ∙ same ∙ size_is) tail (subst (Shows h t) is r.0))
