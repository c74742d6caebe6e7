-- The promises of merge (docs/RULES.md, "Merge").
use Rattle.std.specs.Prelude.{Option, Some, None, ◌≤◌, ℕ, Result, Err, zero, suc, ◌-◌, ◌<◌, ◌≡◌, refl, ◌≢◌, List, length}
use Rattle.std.proofs.Common.{arith}
use Rattle.theory.specs.Answer.{refuses}
use Rattle.theory.specs.Refusal.{destination_due, or_else}
use Rattle.theory.specs.Planning.{width_from}
use Rattle.theory.specs.Joining.{joined, taken, wanted, joined_qbits, joined_due, taken_due}
use Rattle.layout.specs.declared.numbers.Numbers.{Numbers}
use Rattle.layout.specs.declared.refusal.Refusal.{Refusal}
use Rattle.layout.specs.declared.refusal.Refusal.TheVariants.{Narrower, TwoFamilies}
use Rattle.layout.specs.declared.shape.Shape.{Shape}
use Rattle.layout.specs.Records.{shape_of, width_of, with_shape, with_len, HoldsOf, CheckedBoth, OneFamily}
use Rattle.layout.specs.Judging.{two_families, one_family}
use Rattle.growth.specs.Says.{rebuilt_says}
use Rattle.growth.specs.Take.{TakesIn}
use Rattle.growth.specs.Rebuilding.{Lands}

-- equal widths: the least qbits from self's on with capacity for what is wanted; 7, then 12
abbrev pub qbits_for : Numbers → ℕ → List ℕ → List ℕ → ℕ
qbits_for n keep la lb = joined_qbits n.qbits n.max_qbits (wanted keep la lb)

-- the shape with these qbits and as many bits in all
abbrev pub shape_for : Numbers → ℕ → Shape
shape_for n q = record { qbits = q; rbits = width_of n - q }

abbrev pub EqualTo : Numbers → ℕ → List ℕ → List ℕ → List ℕ → Result Numbers Refusal → List ℕ → Type 0
EqualTo n keep la lb d a t =
    let h = shape_for n (qbits_for n keep la lb) in
    Lands (or_else (joined_due n.qbits n.max_qbits (wanted keep la lb)) (destination_due h.qbits h.rbits (length d))) (with_shape n h (length (joined keep la lb))) (joined keep la lb) d (rebuilt_says a) t

-- other wider: qbits stays; 7, then 12
abbrev pub WiderTo : Numbers → ℕ → List ℕ → List ℕ → List ℕ → Result Numbers Refusal → List ℕ → Type 0
WiderTo n keep la lb d a t =
    let l = taken keep n.qbits n.rbits la lb in
    Lands (or_else (taken_due n.qbits la l) (destination_due n.qbits n.rbits (length d))) (with_len n (length l)) l d (rebuilt_says a) t

-- other's width is smaller: 8; or one of the two cases
pub record MergesTo (n m : Numbers) (keep : ℕ) (la lb d : List ℕ) (a : Result Numbers Refusal) (t : List ℕ) : Type 0 where
  pub narrower : width_of m < width_of n → (rebuilt_says a ≡ refuses 8) × (t ≡ d)
  pub equal : width_of m ≡ width_of n → EqualTo n keep la lb d a t
  pub wider : width_of n < width_of m → WiderTo n keep la lb d a t

-- number k is given, and the destination stays as it was
abbrev pub Untaken : List ℕ → Result Numbers Refusal → List ℕ → ℕ → Type 0
Untaken d a t k = (rebuilt_says a ≡ refuses k) × (t ≡ d)

-- two families: 19; or one, and the cases
abbrev pub MergesFamily : Numbers → Numbers → ℕ → List ℕ → List ℕ → List ℕ → Result Numbers Refusal → List ℕ → Type 0
MergesFamily n m keep la lb d a t = OneFamily n m (Untaken d a t) (MergesTo n m keep la lb d a t)

-- self's numbers 1 to 6, other's 1 to 6, then the families and the cases
abbrev pub Merges : Numbers → List ℕ → Numbers → List ℕ → ℕ → List ℕ → Result Numbers Refusal → List ℕ → Type 0
Merges n s m o keep d a t = CheckedBoth n s m o (Untaken d a t) (λ la lb. MergesFamily n m keep la lb d a t)

-- ---- how the code comes to it
abbrev pub most_of : ℕ → ℕ
most_of zero = 1
most_of (suc keep) = 18446744073709551615

pub most_all : (keep : ℕ) → keep ≢ 0 → most_of keep ≡ 18446744073709551615
most_all zero h = absurd (h refl)
most_all (suc keep) h = refl

-- what is promised of filters that passed 1 to 5, if both hold a list
abbrev pub OfBoth : Numbers → List ℕ → Numbers → List ℕ → (List ℕ → List ℕ → Type 0) → Type 0
OfBoth n s m o P = (la lb : List ℕ) → HoldsOf n s la → HoldsOf m o lb → P la lb

pub record Wants (n : Numbers) (s : List ℕ) (m : Numbers) (o : List ℕ) (keep a : ℕ) : Type 0 where
  pub right : OfBoth n s m o (λ la lb. a ≡ wanted keep la lb)

abbrev pub MergesEqual : Numbers → List ℕ → Numbers → List ℕ → ℕ → List ℕ → Result Numbers Refusal → List ℕ → Type 0
MergesEqual n s m o keep d a t = OfBoth n s m o (λ la lb. EqualTo n keep la lb d a t)

abbrev pub MergesWider : Numbers → List ℕ → Numbers → List ℕ → ℕ → List ℕ → Result Numbers Refusal → List ℕ → Type 0
MergesWider n s m o keep d a t = OfBoth n s m o (λ la lb. WiderTo n keep la lb d a t)

abbrev pub MergesSound : Numbers → List ℕ → Numbers → List ℕ → ℕ → List ℕ → Result Numbers Refusal → List ℕ → Type 0
MergesSound n s m o keep d a t = OfBoth n s m o (λ la lb. MergesTo n m keep la lb d a t)

-- the same of any two families: 19, or what is promised of one
abbrev pub MergesPair : Numbers → List ℕ → Numbers → List ℕ → ℕ → List ℕ → Result Numbers Refusal → List ℕ → Type 0
MergesPair n s m o keep d a t = OfBoth n s m o (λ la lb. MergesFamily n m keep la lb d a t)

-- the least qbits from the first to the last with capacity for c, or none has it
abbrev pub WidthUpTo : ℕ → ℕ → ℕ → Option ℕ → Type 0
WidthUpTo first last c (Some q) = (q ≡ width_from (suc (last - first)) first c) × (first ≤ q) × (q ≤ last)
WidthUpTo first last c None = last < width_from (suc (last - first)) first c

-- both lists taken into an empty destination, one after the other
pub record Joins (n : Numbers) (s : List ℕ) (m : Numbers) (o : List ℕ) (keep : ℕ) (h : Shape) (d : List ℕ) (a : ℕ) (t : List ℕ) : Type 0 where
  pub own : ℕ
  pub between : List ℕ
  pub first : TakesIn (shape_of n) s n.len h d 0 (most_of keep) own between
  pub second : TakesIn (shape_of m) o m.len h between own (most_of keep) a t

-- ---- the cases by width
module _ (n : Numbers) (s : List ℕ) (m : Numbers) (o : List ℕ) (keep : ℕ) (d : List ℕ) (a : Result Numbers Refusal) (t : List ℕ) where
  pub sound_equal : width_of m ≡ width_of n → MergesEqual n s m o keep d a t → MergesSound n s m o keep d a t
  sound_equal h g la lb x y = record { narrower = λ z. absurd (omega arith); equal = λ _. g la lb x y; wider = λ z. absurd (omega arith) }

  pub sound_wider : width_of n < width_of m → MergesWider n s m o keep d a t → MergesSound n s m o keep d a t
  sound_wider h g la lb x y = record { narrower = λ z. absurd (omega arith); equal = λ z. absurd (omega arith); wider = λ _. g la lb x y }

pub sound_narrower : (n : Numbers) (s : List ℕ) (m : Numbers) (o : List ℕ) (keep : ℕ) (d : List ℕ) → width_of m < width_of n → MergesSound n s m o keep d (Err Narrower) d
sound_narrower n s m o keep d h la lb x y = record { narrower = λ _. (refl, refl); equal = λ z. absurd (omega arith); wider = λ z. absurd (omega arith) }

-- ---- and by family
module _ (n : Numbers) (s : List ℕ) (m : Numbers) (o : List ℕ) (keep : ℕ) (d : List ℕ) where
  pub pair_differ : n.family ≢ m.family → MergesPair n s m o keep d (Err TwoFamilies) d
  pair_differ h la lb x y = two_families n m _ _ h (refl, refl)

  pub pair_same : (a : Result Numbers Refusal) (t : List ℕ) → n.family ≡ m.family → MergesSound n s m o keep d a t → MergesPair n s m o keep d a t
  pair_same a t e g la lb x y = one_family n m _ _ e (g la lb x y)
