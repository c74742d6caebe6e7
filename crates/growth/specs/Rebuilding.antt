-- The promises of growth (docs/RULES.md, "Growth"), and what every rebuild into a lent destination comes to.
use Rattle.std.specs.Prelude.{ℕ, Result, Ok, Err, ◌+◌, ◌-◌, ◌^◌, ◌≤◌, ◌<◌, ◌≡◌, refl, List, [], length}
use Rattle.std.proofs.Common.{sym, ap, subst, ◌∙◌, arith, pow-add}
use Rattle.std.proofs.Math.Decide.{dec_le}
use Rattle.theory.specs.tools.Choose.{choose_yes, choose_no}
use Rattle.theory.specs.Shape.{Widths, slots, capacity, bytes}
use Rattle.theory.specs.Holding.{Under}
use Rattle.theory.specs.Answer.{Answer, refuses}
use Rattle.theory.specs.Image.{image}
use Rattle.theory.specs.Refusal.{max_due, destination_due, or_else}
use Rattle.theory.specs.Joining.{added, growth_due}
use Rattle.theory.specs.number.Bytes.{Bytes}
use Rattle.theory.specs.images.Sizes.{next_room}
use Rattle.theory.specs.images.ImageBytes.{image_tail}
use Rattle.theory.proofs.images.IsImage.{is_image, image_is}
use Rattle.theory.specs.list.UpTo.{added_up_to, up_to_all, added_alone, cut_same}
use Rattle.theory.specs.refusals.ByNumber.{max_good, max_fits, else_none, else_some}
use Rattle.layout.specs.Judging.{clear_of}
use Rattle.theory.specs.refusals.PlanRefused.{fresh_rest, none_destination}
use Rattle.theory.specs.images.EmptyImage.{holds_empty}
use Rattle.layout.specs.declared.numbers.Numbers.{Numbers}
use Rattle.layout.specs.declared.refusal.Refusal.{Refusal}
use Rattle.layout.specs.declared.shape.Shape.{Shape}
use Rattle.layout.specs.Refusals.{number, number_some}
use Rattle.layout.specs.Fresh.{MadeAs}
use Rattle.layout.specs.Records.{shape_of, width_of, with_shape, lowest_due, HoldsOf, CheckedOn, Leaves}
use Rattle.layout.specs.Outcomes.{leaves_refused, leaves_done}
use Rattle.filter.specs.Asking.{holds_shows}
use Rattle.filter.specs.Lookup.{Shows}
use Rattle.growth.specs.Says.{rebuilt_says}
use Rattle.growth.specs.Take.{SameTail, taken_in, TakesIn}

-- number k is due, and the destination stays as it was; or none is, the record n is answered, and it is the image of l at its widths
abbrev pub Lands : ℕ → Numbers → List ℕ → List ℕ → Answer Numbers → List ℕ → Type 0
Lands k n l d a t = Leaves k n n l d a t

-- one more bit of quotient, one fewer of remainder, and the record then
abbrev pub grown_shape : Numbers → Shape
grown_shape n = record { qbits = n.qbits + 1; rbits = n.rbits - 1 }

abbrev pub grown_to : Numbers → ℕ → Numbers
grown_to n len = with_shape n (grown_shape n) len

-- growth, 7 and then 12: the same holding at these widths, len, max_qbits and family kept
abbrev pub grow_due : Numbers → ℕ → ℕ
grow_due n size = or_else (growth_due n.qbits n.max_qbits) (destination_due (n.qbits + 1) (n.rbits - 1) size)

abbrev pub GrowsTo : Numbers → List ℕ → List ℕ → Result Numbers Refusal → List ℕ → Type 0
GrowsTo n l d a t = Lands (grow_due n (length d)) (grown_to n (length l)) l d (rebuilt_says a) t

abbrev pub Grows : Numbers → List ℕ → List ℕ → Result Numbers Refusal → List ℕ → Type 0
Grows n s d a t = CheckedOn n s (λ k. (rebuilt_says a ≡ refuses k) × (t ≡ d)) (λ l. GrowsTo n l d a t)

-- ---- how the code comes to it
-- a destination made empty, or 12 and as it was
abbrev pub Empties : ℕ → ℕ → List ℕ → Result Unit Refusal → List ℕ → Type 0
Empties q r d (Ok _) t = (destination_due q r (length d) ≡ 0) × (t ≡ image q r []) × (length d ≡ bytes q r)
Empties q r d (Err e) t = (destination_due q r (length d) ≡ number e) × (t ≡ d)

-- what a fresh filter's answer says of it
abbrev pub emptied : Result Numbers Refusal → Result Unit Refusal
emptied (Ok n) = Ok tt
emptied (Err e) = Err e

pub made_empties : (q r mx family : ℕ) → Widths q r → max_due q r mx ≡ 0 → (d : List ℕ) (m : Result Numbers Refusal) (t : List ℕ) → MadeAs d q r mx family m t → Empties q r d (emptied m) t
made_empties q r mx family w e d (Ok n) t h =
    let none = sym (fresh_rest q r mx (length d) w e) ∙ h.0 in
    (none, h.2, none_destination q r (length d) none)
made_empties q r mx family w e d (Err k) t h = (sym (fresh_rest q r mx (length d) w e) ∙ h.0, h.1)

-- a buffer that shows l, written inside one that was an image, is the image of l
pub lands_image : (h : Shape) → 6 ≤ h.qbits → (x l t : List ℕ) → Bytes t → length t ≡ bytes h.qbits h.rbits → SameTail h (image h.qbits h.rbits x) t → Shows h t l
    → t ≡ image h.qbits h.rbits l
lands_image h low x l t b n e w = is_image h.qbits h.rbits low l w.holding t b n w.image (e ∙ image_tail h.qbits h.rbits x)

-- an empty buffer shows nothing
pub shows_empty : (h : Shape) → 6 ≤ h.qbits → Shows h (image h.qbits h.rbits []) []
shows_empty h low =
    let e = (holds_empty h.qbits h.rbits).holding in
    record { holding = e; image = image_is h.qbits h.rbits low [] e }

-- with duplicates out of reach, a list of the width is added as it is
pub taken_all : (h : Shape) (most : ℕ) (a b : List ℕ) → Under (2 ^ (h.qbits + h.rbits)) b → length a + length b ≤ most → taken_in h most a b ≡ added a b
taken_all h most a b u n =
    ap (added_up_to most a) (cut_same h.qbits h.rbits b u) ∙ up_to_all most a b n

-- what a filter holds is of its width
pub held_under : (h : Shape) (s l : List ℕ) → Shows h s l → Under (2 ^ (h.qbits + h.rbits)) l
unfolding slots
held_under h s l w = rw (pow-add 2 h.qbits h.rbits) w.holding.under

module _ (n : Numbers) (s : List ℕ) (e : lowest_due n s ≡ 0) (l : List ℕ) (w : HoldsOf n s l) where
  -- a holding taken into an empty destination of the same sum of widths: itself, at other widths
  pub taken_whole : (h : Shape) → Widths h.qbits h.rbits → h.qbits + h.rbits ≡ n.qbits + n.rbits → n.len ≤ capacity h.qbits → (most : ℕ) → n.len ≤ most → (a : ℕ) (t : List ℕ)
      → TakesIn (shape_of n) s n.len h (image h.qbits h.rbits []) 0 most a t → Shows h t l × (a ≡ length l)
  taken_whole h wd sum few most reach a t g =
      let c = clear_of n s e in
      let sh = holds_shows n s l c.widths w in
      let same : taken_in h most [] l ≡ l =
      taken_all h most [] l (rw sum (held_under (shape_of n) s l sh)) (omega (arith, w.many)) ∙ added_alone l w.holding.ascending in
      let r = g.right [] l sh (sym w.many) (shows_empty h wd.low) refl (omega (arith, ap length same, w.many)) in
      (subst (Shows h t) same r.0, r.1 ∙ ap length same)

pub grow_seven : (n : Numbers) (size : ℕ) → n.max_qbits ≤ n.qbits → grow_due n size ≡ 7
unfolding growth_due
grow_seven n size h =
    let e : growth_due n.qbits n.max_qbits ≡ 7 = choose_yes (dec_le n.max_qbits n.qbits) 7 0 h in
    else_some (growth_due n.qbits n.max_qbits) _ (omega arith) ∙ e

pub grow_twelve : (n : Numbers) (size : ℕ) → n.qbits < n.max_qbits → grow_due n size ≡ destination_due (n.qbits + 1) (n.rbits - 1) size
unfolding growth_due
grow_twelve n size h = else_none (growth_due n.qbits n.max_qbits) _ (choose_no (dec_le n.max_qbits n.qbits) 7 0 (λ z. omega arith))

-- ---- a rebuild at other widths
-- the widths h are allowed, keep the bits of a fingerprint and have room for all that is held
pub record CanHold (n : Numbers) (h : Shape) : Type 0 where
  pub widths : Widths h.qbits h.rbits
  pub max_none : max_due h.qbits h.rbits n.max_qbits ≡ 0
  pub sum : h.qbits + h.rbits ≡ width_of n
  pub room : n.len ≤ capacity h.qbits

-- the same holding at the widths h; or 12
abbrev pub RebuildsInto : Numbers → List ℕ → Shape → List ℕ → Result Numbers Refusal → List ℕ → Type 0
RebuildsInto n s h d a t = (l : List ℕ) → HoldsOf n s l → Lands (destination_due h.qbits h.rbits (length d)) (with_shape n h (length l)) l d (rebuilt_says a) t

module _ (n : Numbers) (s : List ℕ) (e : lowest_due n s ≡ 0) (h : Shape) where
  pub into_refused : (d : List ℕ) (k : Refusal) (t : List ℕ) → Empties h.qbits h.rbits d (Err k) t → RebuildsInto n s h d (Err k) t
  into_refused d k t m = λ l w.
      subst (λ (z : List ℕ). Lands (destination_due h.qbits h.rbits (length d)) (with_shape n h (length l)) l d (refuses (number k)) z) (sym m.1)
      (leaves_refused _ (with_shape n h (length l)) (with_shape n h (length l)) l d (number k) m.0 (number_some k))

  pub into_built : CanHold n h → (d t₀ : List ℕ) (u : Unit) → Empties h.qbits h.rbits d (Ok u) t₀ → (most a : ℕ) → n.len ≤ most → (t : List ℕ) → Bytes t → length t ≡ length d
      → TakesIn (shape_of n) s n.len h t₀ 0 most a t → RebuildsInto n s h d (Ok (with_shape n h a)) t
  into_built f d t₀ u m most a reach t b size g = λ l w.
      let from : TakesIn (shape_of n) s n.len h (image h.qbits h.rbits []) 0 most a t = subst (λ (z : List ℕ). TakesIn (shape_of n) s n.len h z 0 most a t) m.1 g in
      let r = taken_whole n s e l w h f.widths f.sum f.room most reach a t from in
      leaves_done _ (with_shape n h (length l)) (with_shape n h (length l)) l d m.0 (with_shape n h a) (ap (with_shape n h) r.1) t
      (lands_image h f.widths.low [] l t b (size ∙ m.2) from.tail r.0)

-- ---- growth of a filter that passed 1 to 5
abbrev pub GrowWorked : Numbers → List ℕ → List ℕ → Result Numbers Refusal → List ℕ → Type 0
GrowWorked n s d a t = (l : List ℕ) → HoldsOf n s l → GrowsTo n l d a t

module _ (n : Numbers) (s : List ℕ) (e : lowest_due n s ≡ 0) (more : n.qbits < n.max_qbits) where
  pub grown_fits : CanHold n (grown_shape n) × (2 ≤ n.rbits)
  grown_fits =
      let c = clear_of n s e in
      let m = max_fits n.qbits n.rbits n.max_qbits c.max_none (λ z. omega arith) in
      let w = c.widths in (
        record {
          widths = record { low = omega (arith, w.low); high = omega (arith, m.1); some = omega (arith, m.2); sum = omega (arith, w.sum, m.2) };
          max_none = max_good (n.qbits + 1) (n.rbits - 1) n.max_qbits (omega arith) m.1 (omega (arith, m.2));
          sum = omega (arith, m.2);
          room = next_room n.qbits n.len c.fewer;
        },
        omega (arith, m.2),
      )

  pub grow_rebuilt : (d : List ℕ) (a : Result Numbers Refusal) (t : List ℕ) → RebuildsInto n s (grown_shape n) d a t → GrowWorked n s d a t
  grow_rebuilt d a t g l w = rw (grow_twelve n (length d) more) (g l w)
