-- What planning answers: the number and the values for each case (docs/RULES.md, "Planning").
use Rattle.std.specs.Prelude.{ℕ, ◌+◌, ◌-◌, ◌≡◌, Float, Result, Ok, Err}
use Rattle.theory.specs.Shape.{capacity, bytes}
use Rattle.theory.specs.Planning.{needed_qbits, rbits_for, half_pow, per_item, planned_rbits, planned_max, capacity_due, specs_due, plan_due, fresh_due}
use Rattle.theory.specs.refusals.PlanRefused.{plan_fresh}
use Rattle.layout.specs.declared.shape.Shape.{Shape}
use Rattle.layout.specs.declared.planning.FilterSpecs.{FilterSpecs}
use Rattle.layout.specs.declared.refusal.Refusal.{Refusal}
use Rattle.layout.specs.Refusals.{number}

-- the least qbits, from 6 on, with capacity for c, if number 10 is not due; else number 10
abbrev pub NeededAs : ℕ → Result ℕ Refusal → Type 0
NeededAs c (Ok q) = (capacity_due c ≡ 0) × (q ≡ needed_qbits c)
NeededAs c (Err e) = capacity_due c ≡ number e

-- what a filter of these widths comes to
pub record SpecsOf (q r : ℕ) (s : FilterSpecs) : Type 0 where
  pub largest_capacity_lem : s.max_capacity ≡ capacity q
  pub max_error_ratio : s.max_error_ratio ≡ half_pow r
  pub bits_per_item : s.bits_per_item ≡ per_item r
  pub memory_bytes_min : s.memory_bytes_min ≡ bytes 6 (q + r - 6)
  pub memory_bytes_max : s.memory_bytes_max ≡ bytes q r
  pub fingerprint_bits : s.fingerprint_bits ≡ q + r

-- the specs of the widths planned, if neither 10 nor 9 is due; else the first that is
abbrev pub SpecifiedAs : ℕ → Float → Result FilterSpecs Refusal → Type 0
SpecifiedAs c rate (Ok s) = (specs_due c rate ≡ 0) × SpecsOf (needed_qbits c) (rbits_for rate) s
SpecifiedAs c rate (Err e) = specs_due c rate ≡ number e

-- the widths planned, if none of 11, 10 and 9 is due; else the first that is
abbrev pub PlannedAs : ℕ → ℕ → Float → Result (Shape × ℕ) Refusal → Type 0
PlannedAs initial most rate (Ok p) =
    (plan_due initial most rate ≡ 0) × (p.0 ≡ record { qbits = needed_qbits initial; rbits = planned_rbits initial most rate }) × (p.1 ≡ planned_max initial most)
PlannedAs initial most rate (Err e) = plan_due initial most rate ≡ number e

-- a plan can be made: with a buffer of the formula's length nothing is due for a fresh filter
pub planned_fresh : (initial most : ℕ) (rate : Float) (h : Shape) (mx : ℕ) → PlannedAs initial most rate (Ok (h, mx))
    → fresh_due h.qbits h.rbits mx (bytes h.qbits h.rbits) ≡ 0
planned_fresh initial most rate h mx p = rw (p.1, p.2) (plan_fresh initial most rate p.0)
