-- The limit that the width of a merge's result keeps to. Assumes nothing.
use Rattle.std.specs.Prelude.{ℕ, ◌+◌, ◌-◌, ◌^◌, ◌≤◌, ◌<◌, ◌≡◌, ◌≢◌}
use native.Mathlib.Omega.{arith}
use Rattle.std.proofs.Math.Decide.{dec_lt, ℕ_discrete}
use Rattle.theory.specs.tools.Choose.{choose_by, choose_yes, choose_no}
use Rattle.theory.specs.Shape.{Widths}
use Rattle.theory.specs.Refusal.{max_due, due}
use Rattle.theory.specs.Joining.{limit, joined_qbits, joined_due}
use Rattle.theory.specs.images.Sizes.{slots_high}
use Rattle.theory.specs.refusals.ByNumber.{none_due, max_absent, max_good, max_fits}

pub limit_own : (q mx : ℕ) → mx ≡ 0 → limit q mx ≡ q
unfolding limit
limit_own q mx h = choose_yes (ℕ_discrete mx 0) q mx h

pub limit_max : (q mx : ℕ) → mx ≢ 0 → limit q mx ≡ mx
unfolding limit
limit_max q mx h = choose_no (ℕ_discrete mx 0) q mx h

-- ---- of a filter of which none of 1 to 5 is due
module _ (q r len mx size : ℕ) (e : due q r len mx size ≡ 0) where
  pub limit_fits : (q ≤ limit q mx) × (limit q mx ≤ 59) × (limit q mx < q + r)
  unfolding limit
  limit_fits =
      let c = none_due q r len mx size e in
      choose_by (λ z. (q ≤ z) × (z ≤ 59) × (z < q + r)) (ℕ_discrete mx 0) (λ _. (omega arith, c.widths.high, omega (arith, c.widths.some)))
      (λ h.
      let m = max_fits q r mx c.max_none h in
      (m.0, m.1, omega (arith, m.2, c.widths.some)))

  pub few : len < 2 ^ 60
  few =
      let c = none_due q r len mx size e in
      omega (arith, c.fewer, slots_high q c.widths.high)

  -- a width from self's up to the limit is allowed, with what is left of self's sum
  pub limit_widths : (k : ℕ) → q ≤ k → k ≤ limit q mx → (Widths k (q + r - k)) × (max_due k (q + r - k) mx ≡ 0) × (k ≤ q + r)
  limit_widths k low high =
      let c = none_due q r len mx size e in
      let g = limit_fits in
      let w = c.widths in (
        record { low = omega (arith, w.low); high = omega (arith, g.1); some = omega (arith, g.2); sum = omega (arith, w.sum, g.2) },
        by_zero (ℕ_discrete mx 0),
        omega (arith, g.2),
      )
    where
      by_zero : Dec (mx ≡ 0) → max_due k (q + r - k) mx ≡ 0
      by_zero (yes z) = max_absent k (q + r - k) mx z
      by_zero (no z) =
          let c = none_due q r len mx size e in
          let g = max_fits q r mx c.max_none z in
          let i = limit_max q mx z in
          max_good k (q + r - k) mx (omega arith) g.1 (omega (arith, g.2, c.widths.some))

-- where 7 is not due, the width found keeps to the limit
pub joined_within : (q mx c : ℕ) → joined_due q mx c ≡ 0 → joined_qbits q mx c ≤ limit q mx
unfolding joined_due
joined_within q mx c e = go (dec_lt (limit q mx) (joined_qbits q mx c))
  where
    go : Dec (limit q mx < joined_qbits q mx c) → joined_qbits q mx c ≤ limit q mx
    go (yes h) =
        let seven : joined_due q mx c ≡ 7 = choose_yes (dec_lt (limit q mx) (joined_qbits q mx c)) 7 0 h in
        absurd (omega arith)
    go (no h) = omega arith
