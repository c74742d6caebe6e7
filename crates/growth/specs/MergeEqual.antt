-- A merge at equal widths: 7, 12, or both lists taken in. Assumes nothing.
use Rattle.std.specs.Prelude.{ℕ, Some, None, Ok, Err, suc, ◌+◌, ◌-◌, ◌^◌, ◌≤◌, ◌<◌, ◌≡◌, refl, List, [], length}
use Rattle.std.proofs.Common.{sym, subst, ◌∙◌, arith}
use Rattle.std.proofs.Math.Path.{ap}
use Rattle.std.proofs.Math.Decide.{dec_lt}
use Rattle.theory.specs.tools.Choose.{choose_yes, choose_no}
use Rattle.theory.specs.Answer.{Answer, refuses}
use Rattle.theory.specs.Shape.{Widths, capacity, blocks}
use Rattle.theory.specs.Image.{image}
use Rattle.theory.specs.Planning.{width_from}
use Rattle.theory.specs.Refusal.{max_due, destination_due, or_else}
use Rattle.theory.specs.Joining.{joined, wanted, limit, joined_qbits, joined_due}
use Rattle.theory.specs.number.Bytes.{Bytes, le}
use Rattle.theory.specs.images.Block.{tail_at}
use Rattle.theory.specs.refusals.ByNumber.{else_none, else_some}
use Rattle.theory.specs.list.MergeLength.{own_of, own_wanted}
use Rattle.theory.specs.plan.Needed.{width_found}
use Rattle.theory.specs.plan.Limits.{few, limit_widths}
use Rattle.layout.specs.declared.numbers.Numbers.{Numbers}
use Rattle.layout.specs.declared.refusal.Refusal.{Refusal}
use Rattle.layout.specs.declared.refusal.Refusal.TheVariants.{NoRoom}
use Rattle.layout.specs.declared.shape.Shape.{Shape}
use Rattle.layout.specs.Refusals.{number, number_some}
use Rattle.filter.specs.Lookup.{Shows}
use Rattle.growth.specs.Take.{SameTail}
use Rattle.growth.specs.Rebuilding.{Lands, Empties, lands_image, shows_empty, held_under}
use Rattle.layout.specs.Records.{shape_of, width_of, with_shape, lowest_due, HoldsOf}
use Rattle.layout.specs.Outcomes.{leaves_refused, leaves_done}
use Rattle.growth.specs.Merging.{Joins, MergesEqual, Wants, WidthUpTo, qbits_for, shape_for}
use Rattle.growth.specs.MergeLists.{Under-width, joins_both, joins_own, shows_other, shows_self}

module _ (n : Numbers) (s : List ℕ) (m : Numbers) (o : List ℕ) (e : lowest_due n s ≡ 0) (f : lowest_due m o ≡ 0) (same : width_of m ≡ width_of n) (keep W : ℕ) (wn : Wants n s m o keep W)
    (last : ℕ) (el : last ≡ limit n.qbits n.max_qbits) (d : List ℕ) where
  is_j : (la lb : List ℕ) → HoldsOf n s la → HoldsOf m o lb → width_from (suc (last - n.qbits)) n.qbits W ≡ qbits_for n keep la lb
  unfolding joined_qbits
  is_j la lb x y =
      ap (λ z. width_from (suc (z - n.qbits)) n.qbits W) el ∙ ap (width_from (suc (limit n.qbits n.max_qbits - n.qbits)) n.qbits) (wn.right la lb x y)

  pub equal_seven : WidthUpTo n.qbits last W None → MergesEqual n s m o keep d (Err NoRoom) d
  unfolding joined_due
  equal_seven none la lb x y =
      let j = qbits_for n keep la lb in
      let k : joined_due n.qbits n.max_qbits (wanted keep la lb) ≡ 7 =
      choose_yes (dec_lt (limit n.qbits n.max_qbits) j) 7 0 (omega (arith, el, none, is_j la lb x y)) in
      leaves_refused _ (with_shape n (shape_for n j) (length (joined keep la lb))) _ (joined keep la lb) d 7 (else_some (joined_due n.qbits n.max_qbits (wanted keep la lb)) _ (omega arith) ∙ k) (omega arith)

  module _ (q : ℕ) (found : WidthUpTo n.qbits last W (Some q)) where
    abbrev rest : ℕ
    rest = width_of n - q

    abbrev shape : Shape
    shape = shape_for n q

    is_q : (la lb : List ℕ) → HoldsOf n s la → HoldsOf m o lb → q ≡ qbits_for n keep la lb
    is_q la lb x y = found.0 ∙ is_j la lb x y

    -- the promise, at the width found
    abbrev At : List ℕ → List ℕ → Answer Numbers → List ℕ → ℕ → Type 0
    At la lb a t z =
        Lands (or_else (joined_due n.qbits n.max_qbits (wanted keep la lb)) (destination_due z (width_of n - z) (length d))) (with_shape n (shape_for n z) (length (joined keep la lb))) (joined keep la lb) d a t

    not_seven : (la lb : List ℕ) → HoldsOf n s la → HoldsOf m o lb → joined_due n.qbits n.max_qbits (wanted keep la lb) ≡ 0
    unfolding joined_due
    not_seven la lb x y = choose_no (dec_lt (limit n.qbits n.max_qbits) (qbits_for n keep la lb)) 7 0 (λ z. omega (arith, el, found.2, is_q la lb x y))

    pub equal_fits : (Widths q rest) × (max_due q rest n.max_qbits ≡ 0) × (q ≤ n.qbits + n.rbits)
    equal_fits = limit_widths _ _ _ _ _ e q found.1 (omega (arith, found.2))

    pub equal_twelve : (k : Refusal) (t : List ℕ) → Empties q rest d (Err k) t → MergesEqual n s m o keep d (Err k) t
    equal_twelve k t g la lb x y =
        subst (At la lb (refuses (number k)) t) (is_q la lb x y)
        (subst (λ (z : List ℕ). At la lb (refuses (number k)) z q) (sym g.1)
        (leaves_refused _ (with_shape n shape (length (joined keep la lb))) _ (joined keep la lb) d (number k) (else_none (joined_due n.qbits n.max_qbits (wanted keep la lb)) _ (not_seven la lb x y) ∙ g.0) (number_some k)))

    pub equal_built : (t₀ : List ℕ) (u : Unit) → Empties q rest d (Ok u) t₀ → (a : ℕ) (t : List ℕ) → Bytes t → length t ≡ length d → Joins n s m o keep shape t₀ a t
        → MergesEqual n s m o keep d (Ok (with_shape n shape a)) t
    equal_built t₀ u g a t b size j la lb x y =
        let w = equal_fits in
        let h = shape in
        let sum : q + rest ≡ n.qbits + n.rbits = omega (arith, w.2) in
        let ua : Under-width h la = rw sum (held_under (shape_of n) s la (shows_self n s m o e f la x)) in
        let ub : Under-width h lb = rw (sum ∙ sym same) (held_under (shape_of m) o lb (shows_other n s m o e f lb y)) in
        let na : length la < 2 ^ 60 = omega (arith, x.many, few _ _ _ _ _ e) in
        let nb : length lb < 2 ^ 60 = omega (arith, y.many, few _ _ _ _ _ f) in
        let own = joins_own h keep la ua x.holding.ascending na in
        let both = joins_both h keep la lb ub na nb in
        let has : W ≤ capacity q = rw found.0 (width_found (suc (last - n.qbits)) n.qbits W (omega (arith, found.0, found.1, found.2))) in
        let room : wanted keep la lb ≤ capacity q = omega (arith, has, wn.right la lb x y) in
        let made : t₀ ≡ image q rest [] = g.1 in
        let one = j.first.right [] la (shows_self n s m o e f la x) (sym x.many) (subst (λ (z : List ℕ). Shows h z []) (sym made) (shows_empty h w.0.low)) refl (omega (arith, ap length own, (own_wanted keep la lb).0)) in
        let shown : Shows h j.between (own_of keep la) = subst (Shows h j.between) own one.0 in
        let two = j.second.right (own_of keep la) lb (shows_other n s m o e f lb y) (sym y.many) shown (one.1 ∙ ap length own) (omega (arith, ap length both, (own_wanted keep la lb).1)) in
        let tail : SameTail h (image q rest []) t = j.second.tail ∙ j.first.tail ∙ ap (λ z. tail_at rest (blocks q) (le z)) made in
        subst (At la lb _ t) (is_q la lb x y)
        (leaves_done _ (with_shape n shape (length (joined keep la lb))) _ (joined keep la lb) d (else_none (joined_due n.qbits n.max_qbits (wanted keep la lb)) _ (not_seven la lb x y) ∙ g.0) (with_shape n shape a) (ap (with_shape n shape) (two.1 ∙ ap length both)) t
        (lands_image h w.0.low [] (joined keep la lb) t b (size ∙ g.2) tail (subst (Shows h t) both two.0)))
