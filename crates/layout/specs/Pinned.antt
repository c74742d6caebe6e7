-- What the promises of this crate's public calls pin down: of each, any two outcomes (the answer, and every lent byte where the call writes) that keep its promise coincide, for all inputs.
-- Assumes nothing.
use Rattle.std.specs.Prelude.{Result, Ok, Err, ℕ, ◌≤◌, ◌≡◌, refl, List, Float, length, replicate}
use Rattle.std.proofs.Common.{sym, ap, ◌∙◌, inl, inr, arith}
use Rattle.theory.specs.Refusal.{due}
use Rattle.theory.specs.Planning.{rbits_for}
use Rattle.layout.specs.declared.numbers.Numbers.{Numbers}
use Rattle.layout.specs.declared.refusal.Refusal.{Refusal}
use Rattle.layout.specs.declared.shape.Shape.{Shape}
use Rattle.layout.specs.declared.planning.FilterSpecs.{FilterSpecs}
use Rattle.layout.specs.Refusals.{Asked, number_some, number_tells}
use Rattle.layout.specs.Shapes.{ShapedAs}
use Rattle.layout.specs.Plans.{NeededAs, SpecsOf, SpecifiedAs, PlannedAs}
use Rattle.layout.specs.Fresh.{MadeAs}
use Rattle.layout.specs.Verdicts.{Judged, JudgedBoth}

-- ---- shape and numbers
pub new_pinned : (q r : ℕ) (a b : Result Shape Refusal) → ShapedAs q r a → ShapedAs q r b → a ≡ b
new_pinned q r (Ok x) (Ok y) s t = ap Ok (λ i. record { qbits = (s.1 ∙ sym t.1) i; rbits = (s.2 ∙ sym t.2) i })
new_pinned q r (Ok x) (Err k) s t = absurd (omega (arith, number_some k))
new_pinned q r (Err k) (Ok y) s t = absurd (omega (arith, number_some k))
new_pinned q r (Err j) (Err k) s t = ap Err (number_tells j k (sym s ∙ t))

pub number_due_pinned : (size : ℕ) (n : Numbers) (a b : Result Unit Refusal)
    → Asked (due n.qbits n.rbits n.len n.max_qbits size) a → Asked (due n.qbits n.rbits n.len n.max_qbits size) b → a ≡ b
number_due_pinned size n (Ok _) (Ok _) s t = refl
number_due_pinned size n (Ok _) (Err k) s t = absurd (omega (arith, number_some k))
number_due_pinned size n (Err k) (Ok _) s t = absurd (omega (arith, number_some k))
number_due_pinned size n (Err j) (Err k) s t = ap Err (number_tells j k (sym s ∙ t))

-- ---- planning
pub needed_qbits_pinned : (c : ℕ) (a b : Result ℕ Refusal) → NeededAs c a → NeededAs c b → a ≡ b
needed_qbits_pinned c (Ok p) (Ok q) s t = ap Ok (s.1 ∙ sym t.1)
needed_qbits_pinned c (Ok p) (Err k) s t = absurd (omega (arith, number_some k))
needed_qbits_pinned c (Err k) (Ok q) s t = absurd (omega (arith, number_some k))
needed_qbits_pinned c (Err j) (Err k) s t = ap Err (number_tells j k (sym s ∙ t))

pub rbits_for_pinned : (rate : Float) (a b : ℕ) → (a ≡ rbits_for rate) × (1 ≤ a) × (a ≤ 64) → (b ≡ rbits_for rate) × (1 ≤ b) × (b ≤ 64) → a ≡ b
rbits_for_pinned rate a b s t = s.0 ∙ sym t.0

specs_unique : (q r : ℕ) (a b : FilterSpecs) → SpecsOf q r a → SpecsOf q r b → a ≡ b
specs_unique q r a b s t = λ i. record {
  max_capacity = (s.largest_capacity_lem ∙ sym t.largest_capacity_lem) i;
  max_error_ratio = (s.max_error_ratio ∙ sym t.max_error_ratio) i;
  bits_per_item = (s.bits_per_item ∙ sym t.bits_per_item) i;
  memory_bytes_min = (s.memory_bytes_min ∙ sym t.memory_bytes_min) i;
  memory_bytes_max = (s.memory_bytes_max ∙ sym t.memory_bytes_max) i;
  fingerprint_bits = (s.fingerprint_bits ∙ sym t.fingerprint_bits) i;
}

pub filter_specs_pinned : (c : ℕ) (rate : Float) (a b : Result FilterSpecs Refusal) → SpecifiedAs c rate a → SpecifiedAs c rate b → a ≡ b
filter_specs_pinned c rate (Ok x) (Ok y) s t = ap Ok (specs_unique _ _ x y s.1 t.1)
filter_specs_pinned c rate (Ok x) (Err k) s t = absurd (omega (arith, number_some k))
filter_specs_pinned c rate (Err k) (Ok y) s t = absurd (omega (arith, number_some k))
filter_specs_pinned c rate (Err j) (Err k) s t = ap Err (number_tells j k (sym s ∙ t))

pub plan_resizeable_pinned : (initial most : ℕ) (rate : Float) (a b : Result (Shape × ℕ) Refusal) → PlannedAs initial most rate a → PlannedAs initial most rate b → a ≡ b
plan_resizeable_pinned initial most rate (Ok p) (Ok q) s t = λ i. Ok ((s.1 ∙ sym t.1) i, (s.2 ∙ sym t.2) i)
plan_resizeable_pinned initial most rate (Ok p) (Err k) s t = absurd (omega (arith, number_some k))
plan_resizeable_pinned initial most rate (Err k) (Ok q) s t = absurd (omega (arith, number_some k))
plan_resizeable_pinned initial most rate (Err j) (Err k) s t = ap Err (number_tells j k (sym s ∙ t))

-- ---- a fresh filter
pub clear_pinned : (s t u : List ℕ) → t ≡ replicate (length s) 0 → u ≡ replicate (length s) 0 → t ≡ u
clear_pinned s t u x y = x ∙ sym y

pub fresh_pinned : (s : List ℕ) (q r mx family : ℕ) (a b : Result Numbers Refusal) (t u : List ℕ) → MadeAs s q r mx family a t → MadeAs s q r mx family b u → (a ≡ b) × (t ≡ u)
fresh_pinned s q r mx family (Ok m) (Ok n) t u x y = (ap Ok (x.1 ∙ sym y.1), x.2 ∙ sym y.2)
fresh_pinned s q r mx family (Ok m) (Err k) t u x y = absurd (omega (arith, number_some k))
fresh_pinned s q r mx family (Err k) (Ok n) t u x y = absurd (omega (arith, number_some k))
fresh_pinned s q r mx family (Err j) (Err k) t u x y = (ap Err (number_tells j k (sym x.0 ∙ y.0)), x.1 ∙ sym y.1)

-- ---- the check
pub check_pinned : (n : Numbers) (s : List ℕ) (v w : Result Unit Refusal) → Judged n s v → Judged n s w → v ≡ w
check_pinned n s (Ok _) (Ok _) a b = refl
check_pinned n s (Ok _) (Err k) a (inl p) = absurd (omega (arith, a.none))
check_pinned n s (Ok _) (Err k) a (inr p) = absurd (p.1 a)
check_pinned n s (Err j) (Ok _) (inl p) b = absurd (omega (arith, b.none))
check_pinned n s (Err j) (Ok _) (inr p) b = absurd (p.1 b)
check_pinned n s (Err j) (Err k) (inl p) (inl p') = ap Err (number_tells j k (p.1 ∙ sym p'.1))
check_pinned n s (Err j) (Err k) (inl p) (inr p') = absurd (omega arith)
check_pinned n s (Err j) (Err k) (inr p) (inl p') = absurd (omega arith)
check_pinned n s (Err j) (Err k) (inr p) (inr p') = ap Err (number_tells j k (p.2 ∙ sym p'.2))

pub check_both_pinned : (n : Numbers) (s : List ℕ) (m : Numbers) (o : List ℕ) (v w : Result Unit Refusal) → JudgedBoth n s m o v → JudgedBoth n s m o w → v ≡ w
check_both_pinned n s m o (Ok _) (Ok _) a b = refl
check_both_pinned n s m o (Ok _) (Err k) a (inl p) = check_pinned n s (Ok tt) (Err k) a.0 p
check_both_pinned n s m o (Ok _) (Err k) a (inr p) = check_pinned m o (Ok tt) (Err k) a.1 p.1
check_both_pinned n s m o (Err j) (Ok _) (inl p) b = check_pinned n s (Err j) (Ok tt) p b.0
check_both_pinned n s m o (Err j) (Ok _) (inr p) b = check_pinned m o (Err j) (Ok tt) p.1 b.1
check_both_pinned n s m o (Err j) (Err k) (inl p) (inl p') = check_pinned n s (Err j) (Err k) p p'
check_both_pinned n s m o (Err j) (Err k) (inl p) (inr p') = absurd (let z : ◌≡◌ {A = ℕ} 0 1 = cc (check_pinned n s (Err j) (Ok tt) p p'.0) in omega arith)
check_both_pinned n s m o (Err j) (Err k) (inr p) (inl p') = absurd (let z : ◌≡◌ {A = ℕ} 0 1 = cc (check_pinned n s (Ok tt) (Err k) p.0 p') in omega arith)
check_both_pinned n s m o (Err j) (Err k) (inr p) (inr p') = check_pinned m o (Err j) (Err k) p.1 p'.1
