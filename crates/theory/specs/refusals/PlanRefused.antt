-- What planning and a fresh filter refuse, number by number: the laws that their chains of questions go by. Assumes nothing.
use Rattle.std.specs.Prelude.{ℕ, ◌+◌, ◌≤◌, ◌<◌, ◌≡◌, refl, ◌≢◌, Float}
use Rattle.std.proofs.Common.{◌∙◌, arith}
use Rattle.std.proofs.Math.Decide.{dec_lt, ℕ_discrete}
use Rattle.theory.specs.tools.Cases.{by_eq}
use Rattle.theory.specs.tools.Choose.{choose_yes, choose_no}
use Rattle.theory.specs.Shape.{Widths, bytes}
use Rattle.theory.specs.refusals.ByNumber.{else_none, else_some, else_first, else_second, widths_due_lem, widths_none, none_widths, max_four, max_good, max_absent}
use Rattle.theory.specs.Planning.{largest_capacity, needed_qbits, rbits_for, planned_rbits, planned_max, sum_due, capacity_due, order_due, specs_due, plan_due, fresh_due}
use Rattle.theory.specs.Refusal.{widths_due, max_due, destination_due}
use Rattle.theory.specs.plan.Needed.{needed_low, needed_high, needed_mono}
use Rattle.theory.specs.plan.Rates.{rbits_halved}

pub sum_none : (q r : ℕ) → q + r ≤ 64 → sum_due q r ≡ 0
unfolding sum_due
sum_none q r h = choose_no (dec_lt 64 (q + r)) 9 0 (λ l. omega arith)

pub sum_due_lem : (q r : ℕ) → 64 < q + r → sum_due q r ≡ 9
unfolding sum_due
sum_due_lem q r h = choose_yes (dec_lt 64 (q + r)) 9 0 h

pub capacity_none : (c : ℕ) → c ≤ largest_capacity → capacity_due c ≡ 0
unfolding capacity_due
capacity_none c h = choose_no (dec_lt largest_capacity c) 10 0 (λ l. omega arith)

pub capacity_due_lem : (c : ℕ) → largest_capacity < c → capacity_due c ≡ 10
unfolding capacity_due
capacity_due_lem c h = choose_yes (dec_lt largest_capacity c) 10 0 h

pub none_capacity : (c : ℕ) → capacity_due c ≡ 0 → c ≤ largest_capacity
none_capacity c e = go (dec_lt largest_capacity c)
  where
    go : Dec (largest_capacity < c) → c ≤ largest_capacity
    go (yes l) = absurd (omega (arith, capacity_due_lem c l))
    go (no l) = omega arith

pub some_capacity : (c k : ℕ) → capacity_due c ≡ k → 0 < k → largest_capacity < c
some_capacity c k e h = go (dec_lt largest_capacity c)
  where
    go : Dec (largest_capacity < c) → largest_capacity < c
    go (yes l) = l
    go (no l) = absurd (omega (arith, capacity_none c (omega arith)))

pub order_none : (initial most : ℕ) → initial ≤ most → order_due initial most ≡ 0
unfolding order_due
order_none initial most h = choose_no (dec_lt most initial) 11 0 (λ l. omega arith)

pub order_due_lem : (initial most : ℕ) → most < initial → order_due initial most ≡ 11
unfolding order_due
order_due_lem initial most h = choose_yes (dec_lt most initial) 11 0 h

pub destination_none : (q r size : ℕ) → size ≡ bytes q r → destination_due q r size ≡ 0
unfolding destination_due
destination_none q r size e = choose_yes (ℕ_discrete size (bytes q r)) 0 12 e

pub destination_due_lem : (q r size : ℕ) → size ≢ bytes q r → destination_due q r size ≡ 12
unfolding destination_due
destination_due_lem q r size e = choose_no (ℕ_discrete size (bytes q r)) 0 12 e

-- ---- specs
pub specs_ten : (c : ℕ) (rate : Float) → largest_capacity < c → specs_due c rate ≡ 10
unfolding specs_due
specs_ten c rate h =
    let e = capacity_due_lem c h in
    else_some (capacity_due c) _ (omega arith) ∙ e

pub specs_nine : (c : ℕ) (rate : Float) → c ≤ largest_capacity → 64 < needed_qbits c + rbits_for rate → specs_due c rate ≡ 9
unfolding specs_due
specs_nine c rate h l = else_none (capacity_due c) _ (capacity_none c h) ∙ sum_due_lem _ _ l

pub specs_none : (c : ℕ) (rate : Float) → c ≤ largest_capacity → needed_qbits c + rbits_for rate ≤ 64 → specs_due c rate ≡ 0
unfolding specs_due
specs_none c rate h l = else_none (capacity_due c) _ (capacity_none c h) ∙ sum_none _ _ l

-- ---- a plan
module _ (initial most : ℕ) (rate : Float) where
  pub plan_eleven : most < initial → plan_due initial most rate ≡ 11
  unfolding plan_due
  plan_eleven h =
      let e = order_due_lem initial most h in
      else_some (order_due initial most) _ (omega arith) ∙ e

  pub plan_ten : initial ≤ most → largest_capacity < most → plan_due initial most rate ≡ 10
  unfolding plan_due
  plan_ten a h =
      let e = capacity_due_lem most h in
      else_none (order_due initial most) _ (order_none initial most a) ∙ else_some (capacity_due most) _ (omega arith) ∙ e

  -- with both of these not due, only the sum is asked
  plan_rest : initial ≤ most → most ≤ largest_capacity → plan_due initial most rate ≡ sum_due (needed_qbits initial) (planned_rbits initial most rate)
  unfolding plan_due
  plan_rest a h =
      else_none (order_due initial most) _ (order_none initial most a) ∙ else_none (capacity_due most) _ (capacity_none most h)

  pub plan_nine : initial ≤ most → most ≤ largest_capacity → 64 < needed_qbits initial + planned_rbits initial most rate → plan_due initial most rate ≡ 9
  plan_nine a h l = plan_rest a h ∙ sum_due_lem _ _ l

  pub plan_none : initial ≤ most → most ≤ largest_capacity → needed_qbits initial + planned_rbits initial most rate ≤ 64 → plan_due initial most rate ≡ 0
  plan_none a h l = plan_rest a h ∙ sum_none _ _ l

-- max_qbits of a plan
pub planned_none : (initial most : ℕ) → needed_qbits most ≡ needed_qbits initial → planned_max initial most ≡ 0
unfolding planned_max
planned_none initial most e = choose_yes (ℕ_discrete (needed_qbits most) (needed_qbits initial)) _ _ e

pub planned_some : (initial most : ℕ) → needed_qbits most ≢ needed_qbits initial → planned_max initial most ≡ needed_qbits most
unfolding planned_max
planned_some initial most e = choose_no (ℕ_discrete (needed_qbits most) (needed_qbits initial)) _ _ e

-- ---- a fresh filter
module _ (q r mx size : ℕ) where
  pub fresh_one : ¬ (Widths q r) → fresh_due q r mx size ≡ 1
  unfolding fresh_due
  fresh_one h =
      let e = widths_due_lem q r h in
      else_some (widths_due q r) _ (omega arith) ∙ e

  pub fresh_four : Widths q r → 0 < max_due q r mx → fresh_due q r mx size ≡ 4
  unfolding fresh_due
  fresh_four w h = else_none (widths_due q r) _ (widths_none q r w) ∙ else_some (max_due q r mx) _ h ∙ max_four q r mx h

  pub fresh_rest : Widths q r → max_due q r mx ≡ 0 → fresh_due q r mx size ≡ destination_due q r size
  unfolding fresh_due
  fresh_rest w e = else_none (widths_due q r) _ (widths_none q r w) ∙ else_none (max_due q r mx) _ e

  pub fresh_twelve : Widths q r → max_due q r mx ≡ 0 → size ≢ bytes q r → fresh_due q r mx size ≡ 12
  fresh_twelve w e h = fresh_rest w e ∙ destination_due_lem q r size h

  pub fresh_none : Widths q r → max_due q r mx ≡ 0 → size ≡ bytes q r → fresh_due q r mx size ≡ 0
  fresh_none w e h = fresh_rest w e ∙ destination_none q r size h

  pub none_fresh : fresh_due q r mx size ≡ 0 → (Widths q r) × (max_due q r mx ≡ 0)
  unfolding fresh_due
  none_fresh e = (none_widths q r (else_first (widths_due q r) _ e), else_first (max_due q r mx) _ (else_second (widths_due q r) _ e))

-- a destination that is not refused has the length of the formula
pub none_destination : (q r size : ℕ) → destination_due q r size ≡ 0 → size ≡ bytes q r
none_destination q r size e = go (ℕ_discrete size (bytes q r))
  where
    go : Dec (size ≡ bytes q r) → size ≡ bytes q r
    go (yes z) = z
    go (no z) = absurd (omega (arith, destination_due_lem q r size z))

-- ---- a plan that is not refused can be made: a buffer of the formula's length makes a fresh filter of it
module _ (initial most : ℕ) (rate : Float) where
  none_plan : plan_due initial most rate ≡ 0 → (initial ≤ most) × (most ≤ largest_capacity) × (needed_qbits initial + planned_rbits initial most rate ≤ 64)
  none_plan e = go (dec_lt most initial) (dec_lt largest_capacity most) (dec_lt 64 (needed_qbits initial + planned_rbits initial most rate))
    where
      go : Dec (most < initial) → Dec (largest_capacity < most) → Dec (64 < needed_qbits initial + planned_rbits initial most rate)
          → (initial ≤ most) × (most ≤ largest_capacity) × (needed_qbits initial + planned_rbits initial most rate ≤ 64)
      go (yes a) b c = absurd (omega (arith, plan_eleven initial most rate a))
      go (no a) (yes b) c = absurd (omega (arith, plan_ten initial most rate (omega arith) b))
      go (no a) (no b) (yes c) = absurd (omega (arith, plan_nine initial most rate (omega arith) (omega arith) c))
      go (no a) (no b) (no c) = omega arith

  planned_pos : 1 ≤ planned_rbits initial most rate
  unfolding planned_rbits
  planned_pos = omega (arith, (rbits_halved rate).low)

  max_planned : initial ≤ most → most ≤ largest_capacity → max_due (needed_qbits initial) (planned_rbits initial most rate) (planned_max initial most) ≡ 0
  unfolding planned_rbits
  max_planned a h =
      by_eq (needed_qbits most) (needed_qbits initial) (λ e. max_absent _ _ _ (planned_none initial most e))
      (λ e. rw (planned_some initial most e)
      (max_good _ _ _ (needed_mono initial most a h) (needed_high most) (omega (arith, needed_mono initial most a h, (rbits_halved rate).low))))

  pub plan_fresh : plan_due initial most rate ≡ 0
      → fresh_due (needed_qbits initial) (planned_rbits initial most rate) (planned_max initial most) (bytes (needed_qbits initial) (planned_rbits initial most rate)) ≡ 0
  plan_fresh e =
      let n = none_plan e in
      let w : Widths (needed_qbits initial) (planned_rbits initial most rate) = record { low = needed_low initial; high = needed_high initial; some = planned_pos; sum = n.2 } in
      fresh_none _ _ _ _ w (max_planned n.0 n.1) refl
