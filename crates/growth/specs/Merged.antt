-- What follows of the promise of merge: it leaves no choice, its result is sound and of the family of both, and what that holds, fingerprint by fingerprint; and 19 is given of two
-- families alone. Assumes nothing.
use Prim.Native.Nat.{ℕ, zero, suc, ◌+◌, ◌-◌, ◌*◌, ◌^◌, ◌≤◌, ◌<◌, min, max}
use Rattle.std.specs.Prelude.{Result, Ok, Err, ◌≡◌, refl, ◌⊎◌, ◌≢◌, List, map}
use Rattle.std.proofs.Math.Path.{sym, ap, subst}
use Rattle.std.proofs.Common.{◌∙◌, inl, inr, arith, eq-zero-or-pos, pow-add}
use Rattle.std.proofs.Math.Decide.{dec_lt, ℕ_discrete}
use Rattle.std.proofs.Math.ListN.{length}
use Rattle.theory.specs.Answer.{gives, refuses, number}
use Rattle.theory.specs.Shape.{Widths, slots, capacity, bytes, fingerprint}
use Rattle.theory.specs.Holding.{Holding, Under, copies}
use Rattle.theory.specs.Image.{image}
use Rattle.theory.specs.Refusal.{max_due, destination_due}
use Rattle.theory.specs.Joining.{limit, joined, taken, wanted, joined_qbits, joined_due, taken_due}
use Rattle.theory.specs.plan.Needed.{width_low, width_found}
use Rattle.theory.specs.refusals.Demands.{checked_one, not_early, not_refused}
use Rattle.theory.specs.refusals.ByNumber.{clear, clear_none, else_first, else_most, one_most}
use Rattle.layout.specs.Judging.{clear_of, held_within}
use Rattle.theory.specs.images.ImageBytes.{image_length}
use Rattle.theory.specs.list.StillHolding.{joined_holding, taken_holding}
use Rattle.theory.specs.images.Sizes.{capacity_lt}
use Rattle.theory.specs.list.Adding.{copies_kept, copies_single, copies_added, copies_once}
use Rattle.layout.specs.declared.numbers.Numbers.{Numbers}
use Rattle.layout.specs.declared.refusal.Refusal.{Refusal}
use Rattle.layout.specs.declared.refusal.Refusal.TheVariants.{TwoFamilies}
use Rattle.layout.specs.declared.shape.Shape.{Shape}
use Rattle.layout.specs.Outcomes.{alike, apart, leaves_one, leaves_given, family_one, family_given}
use Rattle.growth.specs.Says.{rebuilt_says, rebuilt_tells}
use Rattle.growth.specs.Rebuilding.{Lands, held_under}
use Rattle.theory.specs.plan.Limits.{limit_widths, joined_within}
use Rattle.theory.specs.list.MergeLength.{none_few, own_wanted}
use Rattle.growth.specs.MergeLists.{shows_self, shows_other}
use Rattle.layout.specs.Records.{shape_of, width_of, with_shape, with_len, OfFamily, lowest_due, SoundOf, HoldsOf, CheckedOn}
use Rattle.growth.specs.Merging.{qbits_for, shape_for, MergesTo, Untaken, MergesFamily, Merges}

-- ---- no choice
abbrev Outcome : Type 0
Outcome = Result Numbers Refusal × List ℕ

abbrev No : List ℕ → ℕ → Outcome → Type 0
No d k x = Untaken d x.0 x.1 k

merges_one : (n m : Numbers) (keep : ℕ) (la lb d : List ℕ) (x y : Outcome) → MergesTo n m keep la lb d x.0 x.1 → MergesTo n m keep la lb d y.0 y.1 → x ≡ y
merges_one n m keep la lb d x y p g = go (dec_lt (width_of m) (width_of n)) (dec_lt (width_of n) (width_of m))
  where
    go : Dec (width_of m < width_of n) → Dec (width_of n < width_of m) → x ≡ y
    go (yes h) z = alike rebuilt_says rebuilt_tells x y (p.narrower h) (g.narrower h)
    go (no h) (yes z) = leaves_one rebuilt_says rebuilt_tells _ _ _ _ d x y (p.wider z) (g.wider z)
    go (no h) (no z) = leaves_one rebuilt_says rebuilt_tells _ _ _ _ d x y (p.equal (omega arith)) (g.equal (omega arith))

merges_family_one : (n m : Numbers) (keep : ℕ) (la lb d : List ℕ) (x y : Outcome) → MergesFamily n m keep la lb d x.0 x.1 → MergesFamily n m keep la lb d y.0 y.1 → x ≡ y
merges_family_one n m keep la lb d x y p g =
    family_one n m (No d) (λ (z : Outcome). MergesTo n m keep la lb d z.0 z.1) x p (alike rebuilt_says rebuilt_tells) (merges_one n m keep la lb d) y g

-- any two outcomes that keep the promise coincide, for all inputs
pub merge_pinned : (n : Numbers) (s : List ℕ) (m : Numbers) (o : List ℕ) (keep : ℕ) (d : List ℕ) (a b : Result Numbers Refusal) (t u : List ℕ) → Merges n s m o keep d a t → Merges n s m o keep d b u
    → (a ≡ b) × (t ≡ u)
merge_pinned n s m o keep d a b t u p g =
    apart (a, t) (b, u)
    (checked_one (No d) (λ la (x : Outcome). CheckedOn m o (λ k. No d k x) (λ lb. MergesFamily n m keep la lb d x.0 x.1)) _ _ _ _ s (λ k. alike rebuilt_says rebuilt_tells)
    (λ la _. checked_one (No d) (λ lb (x : Outcome). MergesFamily n m keep la lb d x.0 x.1) _ _ _ _ o (λ k. alike rebuilt_says rebuilt_tells) (λ lb _. merges_family_one n m keep la lb d)) (a, t) (b, u) p g)

-- ---- a rebuild that is not refused: if its list is a holding of allowed widths, the filter holds it
module _ (k : ℕ) (n : Numbers) (h : Shape) (l d : List ℕ) (x : Numbers) (t : List ℕ) (p : Lands k (with_shape n h (length l)) l d (gives x) t) where
  landed_holds : Widths h.qbits h.rbits → max_due h.qbits h.rbits n.max_qbits ≡ 0 → Holding (slots h.qbits) (2 ^ h.rbits) l → length l ≤ capacity h.qbits → (lowest_due x t ≡ 0) × HoldsOf x t l
  landed_holds w e z room =
      let b = leaves_given k _ (with_shape n h (length l)) l d x t p in
      rw (b.1, b.2) (
        clear_none h.qbits h.rbits (length l) n.max_qbits (length (image h.qbits h.rbits l)) (clear w (image_length h.qbits h.rbits l) room e),
        record { holding = z; many = refl; bytes = refl },
      )

-- ---- a merge that is not refused
module _ (n : Numbers) (s : List ℕ) (m : Numbers) (o : List ℕ) (keep : ℕ) (d : List ℕ) (x : Numbers) (t : List ℕ) (p : Merges n s m o keep d (Ok x) t) where
  never : (k : ℕ) → gives x ≡ refuses k → ⊥
  never k e = let z : ◌≡◌ {A = ℕ} 0 1 = cc in omega arith

  -- was one of two sound filters of one family
  both : (y : SoundOf n s) × (z : SoundOf m o) × (n.family ≡ m.family) × MergesTo n m keep y.held z.held d (Ok x) t
  both =
      let y = not_refused _ _ _ _ s _ _ p (λ k z. never k z.0) in
      let z = not_refused _ _ _ _ o _ _ y.1 (λ k z. never k z.0) in
      let w = family_given n m (λ k (c : Result Numbers Refusal). Untaken d c t k) (λ c. MergesTo n m keep y.0.held z.0.held d c t) (Ok x) z.1 (λ z. never 19 z.0) in
      (y.0, z.0, w.0, w.1)

  module _ (la lb : List ℕ) (ha : HoldsOf n s la) (hb : HoldsOf m o lb) where
    abbrev e : lowest_due n s ≡ 0
    e = both.0.none

    abbrev f : lowest_due m o ≡ 0
    f = both.1.none

    cases : MergesTo n m keep la lb d (Ok x) t
    cases = ((p.sound e la ha).sound f lb hb).same both.2

    under_self : Under (2 ^ width_of n) la
    under_self = held_under (shape_of n) s la (shows_self n s m o e f la ha)

    -- equal widths: it holds the two together, at the width that has room for them
    equal_holds : width_of m ≡ width_of n → (lowest_due x t ≡ 0) × HoldsOf x t (joined keep la lb)
    unfolding slots joined_qbits
    equal_holds same =
        let q = qbits_for n keep la lb in
        let r = width_of n - q in
        let none = else_first (joined_due n.qbits n.max_qbits (wanted keep la lb)) _ (leaves_given _ _ (with_shape n (shape_for n q) (length (joined keep la lb))) (joined keep la lb) d x t (cases.equal same)).0 in
        let high = joined_within n.qbits n.max_qbits (wanted keep la lb) none in
        let low : n.qbits ≤ q = width_low (suc (limit n.qbits n.max_qbits - n.qbits)) n.qbits (wanted keep la lb) in
        let w = limit_widths _ _ _ _ _ e q low high in
        let sum : 2 ^ q * 2 ^ r ≡ 2 ^ width_of n = sym (pow-add 2 q r) ∙ ap (λ z. 2 ^ z) (omega (arith, w.2)) in
        let wide : wanted keep la lb ≤ capacity q = width_found (suc (limit n.qbits n.max_qbits - n.qbits)) n.qbits (wanted keep la lb) (omega arith) in
        let room : length (joined keep la lb) ≤ capacity q = omega (arith, (own_wanted keep la lb).1, wide) in
        let ub : Under (2 ^ width_of n) lb = subst (λ z. Under (2 ^ z) lb) same (held_under (shape_of m) o lb (shows_other n s m o e f lb hb)) in
        landed_holds _ n (shape_for n q) (joined keep la lb) d x t (cases.equal same) w.0 w.1
        (joined_holding (2 ^ q) (2 ^ r) la lb ha.holding.ascending (rw sum under_self) keep (rw sum ub) (omega (arith, room, capacity_lt q w.0.low))) room

    -- other wider: it holds self with what is taken of the other, cut to self's width
    wider_holds : width_of n < width_of m → (lowest_due x t ≡ 0) × HoldsOf x t (taken keep n.qbits n.rbits la lb)
    unfolding slots
    wider_holds more =
        let c = clear_of n s e in
        let l = taken keep n.qbits n.rbits la lb in
        let none = else_first _ _ (leaves_given _ _ (with_len n (length l)) l d x t (cases.wider more)).0 in
        let room = none_few n.qbits la l none (held_within n s la e ha) in
        landed_holds _ n (shape_of n) l d x t (cases.wider more) c.widths c.max_none
        (taken_holding (2 ^ n.qbits) (2 ^ n.rbits) la lb ha.holding.ascending ha.holding.under keep n.qbits n.rbits (sym (pow-add 2 n.qbits n.rbits))
        (omega (arith, room, capacity_lt n.qbits c.widths.low))) room

  -- and left a sound one
  pub merged_sound : SoundOf x t
  merged_sound = go (dec_lt (width_of m) (width_of n)) (dec_lt (width_of n) (width_of m))
    where
      la : List ℕ
      la = both.0.held

      lb : List ℕ
      lb = both.1.held

      from : (l : List ℕ) → (lowest_due x t ≡ 0) × HoldsOf x t l → SoundOf x t
      from l h = record { none = h.0; held = l; holds = h.1 }

      go : Dec (width_of m < width_of n) → Dec (width_of n < width_of m) → SoundOf x t
      go (yes h) z = absurd (omega (arith, ap number (both.3.narrower h).0))
      go (no h) (yes z) = from _ (wider_holds la lb both.0.holds both.1.holds z)
      go (no h) (no z) = from _ (equal_holds la lb both.0.holds both.1.holds (omega arith))

  -- of the family of both
  pub merged_family : OfFamily n x × OfFamily m x
  merged_family =
      let e = go (dec_lt (width_of m) (width_of n)) (dec_lt (width_of n) (width_of m)) in
      (e, e ∙ both.2)
    where
      kept : (k : ℕ) (h : Shape) (l : List ℕ) → Lands k (with_shape n h (length l)) l d (gives x) t → OfFamily n x
      kept k h l y = ap (λ (z : Numbers). z.family) (leaves_given k _ (with_shape n h (length l)) l d x t y).1

      go : Dec (width_of m < width_of n) → Dec (width_of n < width_of m) → OfFamily n x
      go (yes h) z = absurd (omega (arith, ap number (both.3.narrower h).0))
      go (no h) (yes z) = kept _ (shape_of n) _ (both.3.wider z)
      go (no h) (no z) = kept _ (shape_for n _) _ (both.3.equal (omega arith))

-- ---- 19 is given of two sound filters of two families alone
-- behind the families only 8, 7 and 12 are asked
destination_most : (q r size : ℕ) → destination_due q r size ≤ 12
unfolding destination_due
destination_most q r size = one_most 12 (ℕ_discrete size (bytes q r)) 0 12 (omega arith) (omega arith)

joined_most : (q mx c : ℕ) → joined_due q mx c ≤ 12
unfolding joined_due
joined_most q mx c = one_most 12 (dec_lt (limit q mx) (joined_qbits q mx c)) 7 0 (omega arith) (omega arith)

taken_most : (q : ℕ) (a l : List ℕ) → taken_due q a l ≤ 12
unfolding taken_due
taken_most q a l = one_most 12 (dec_lt (length a) (length l)) _ 0 (one_most 12 (dec_lt (capacity q) (length l)) 7 0 (omega arith) (omega arith)) (omega arith)

pub nineteen : (n : Numbers) (s : List ℕ) (m : Numbers) (o : List ℕ) (keep : ℕ) (d t : List ℕ) → Merges n s m o keep d (Err TwoFamilies) t → SoundOf n s × SoundOf m o × (n.family ≢ m.family)
nineteen n s m o keep d t p =
    let y = not_early _ _ _ _ s _ _ p (λ k h z. omega (arith, h, ap number z.0)) in
    let z = not_early _ _ _ _ o _ _ y.1 (λ k h z. omega (arith, h, ap number z.0)) in
    (y.0, z.0, λ e. refutes y.0.held z.0.held (z.1.same e) (dec_lt (width_of m) (width_of n)) (dec_lt (width_of n) (width_of m)))
  where
    lands : (k : ℕ) (x : Numbers) (l : List ℕ) → k ≤ 12 → Lands k x l d (refuses 19) t → ⊥
    lands k x l h q = go (eq-zero-or-pos k)
      where
        go : (k ≡ 0) ⊎ (0 < k) → ⊥
        go (inl z) = omega (arith, ap number (q.done z).0)
        go (inr z) = omega (arith, h, ap number (q.refused z).0)

    refutes : (la lb : List ℕ) → MergesTo n m keep la lb d (Err TwoFamilies) t → Dec (width_of m < width_of n) → Dec (width_of n < width_of m) → ⊥
    refutes la lb q (yes h) z = omega (arith, ap number (q.narrower h).0)
    refutes la lb q (no h) (yes z) = lands _ _ _ (else_most 12 (taken_due n.qbits la (taken keep n.qbits n.rbits la lb)) _ (taken_most _ la _) (destination_most _ _ (length d))) (q.wider z)
    refutes la lb q (no h) (no z) = lands _ _ _ (else_most 12 (joined_due n.qbits n.max_qbits (wanted keep la lb)) _ (joined_most _ _ _) (destination_most _ _ (length d))) (q.equal (omega arith))

-- ---- what the result holds
-- a list of which P says how often it has each fingerprint
abbrev pub Holds-as : Numbers → List ℕ → (ℕ → ℕ → Type 0) → Type 0
Holds-as x t P = (l : List ℕ) × HoldsOf x t l × ((g : ℕ) → P g (copies g l))

module _ (n : Numbers) (s : List ℕ) (m : Numbers) (o : List ℕ) (keep : ℕ) (d : List ℕ) (x : Numbers) (t : List ℕ) (p : Merges n s m o keep d (Ok x) t) (la lb : List ℕ) (ha : HoldsOf n s la) (hb : HoldsOf m o lb) where
  -- equal widths: with duplicates, multiplicities add for every fingerprint; without, holding is the union, once each
  pub merged_adds : width_of m ≡ width_of n → 0 < keep → Holds-as x t (λ g c. c ≡ copies g la + copies g lb)
  merged_adds w k = (joined keep la lb, (equal_holds n s m o keep d x t p la lb ha hb w).1, λ g. with_all keep k g)
    where
      with_all : (keep : ℕ) → 0 < keep → (g : ℕ) → copies g (joined keep la lb) ≡ copies g la + copies g lb
      with_all zero k g = absurd (omega arith)
      with_all (suc keep) k g = copies_kept keep g la lb

  pub merged_union : width_of m ≡ width_of n → keep ≡ 0 → Holds-as x t (λ g c. c ≡ min 1 (copies g la + copies g lb))
  merged_union w k =
      (joined keep la lb, (equal_holds n s m o keep d x t p la lb ha hb w).1, λ g. ap (λ z. copies g (joined z la lb)) k ∙ copies_single g la lb)

  -- other wider: the same of its fingerprints cut to self's width, and self's repeats stay
  abbrev cuts : List ℕ
  cuts = map (fingerprint n.qbits n.rbits) lb

  pub merged_cut_adds : width_of n < width_of m → 0 < keep → Holds-as x t (λ g c. c ≡ copies g la + copies g cuts)
  unfolding taken
  merged_cut_adds w k = (taken keep n.qbits n.rbits la lb, (wider_holds n s m o keep d x t p la lb ha hb w).1, λ g. with_all keep k g)
    where
      with_all : (keep : ℕ) → 0 < keep → (g : ℕ) → copies g (taken keep n.qbits n.rbits la lb) ≡ copies g la + copies g cuts
      with_all zero k g = absurd (omega arith)
      with_all (suc keep) k g = copies_added g la cuts

  pub merged_cut_union : width_of n < width_of m → keep ≡ 0 → Holds-as x t (λ g c. c ≡ max (copies g la) (min 1 (copies g cuts)))
  unfolding taken
  merged_cut_union w k =
      (taken keep n.qbits n.rbits la lb, (wider_holds n s m o keep d x t p la lb ha hb w).1, λ g. ap (λ z. copies g (taken z n.qbits n.rbits la lb)) k ∙ copies_once g la cuts)
