-- To clamp a rate to 2 ^ -64 .. 0.5 before rbits is looked for changes nothing. Assumes nothing.
use Rattle.std.specs.Prelude.{ℕ, zero, suc, ◌+◌, ◌*◌, ◌^◌, ◌≤◌, ◌<◌, ◌≡◌, refl, Bool, true, false, cond, ℤ, pos, negsuc, T, ltb, Float}
use Rattle.std.proofs.Common.{arith, mul-le-mul_left, sym, ◌∙◌, true≢false, ltb→lt, lt→ltb, pow_pos, pow_mono}
use Rattle.std.specs.Float.{nan, inf, fin}
use Rattle.std.specs.Float.Ieee.{lt, up, down}
use Rattle.theory.specs.tools.Cases.{by_eq}
use Rattle.theory.specs.Planning.{half_pow, halvings, rbits_for}
use Rattle.theory.specs.plan.Rates.{halvings_here, rbits_halved}

unfoldable pub clamped : Float → Float
clamped rate = cond (lt rate (half_pow 64)) (half_pow 64) (cond (lt (half_pow 1) rate) (half_pow 1) rate)

below_is : (a b : ℕ) → a < b → ltb a b ≡ true
below_is a b l = go (ltb a b) (lt→ltb a b l)
  where
    go : (x : Bool) → T x → x ≡ true
    go true t = refl
    go false t = absurd t

is_below : (a b : ℕ) → ltb a b ≡ true → a < b
is_below a b e = ltb→lt a b (rw e tt)

not_below : (a b : ℕ) → b ≤ a → ltb a b ≡ false
not_below a b l = go (ltb a b) (ltb→lt a b)
  where
    go : (x : Bool) → (T x → a < b) → x ≡ false
    go true f = absurd (omega (arith, f tt))
    go false f = refl

down_pos : (e : ℤ) → 0 < down e
down_pos (pos k) = omega arith
down_pos (negsuc k) = pow_pos (suc k)

-- a rate below a power is below a larger one
below_up : (rate : Float) (i j : ℕ) → i ≤ j → lt rate (half_pow (suc j)) ≡ true → lt rate (half_pow (suc i)) ≡ true
unfolding lt
below_up nan i j l h = h
below_up (inf s) i j l h = h
below_up (fin false m e) i j l h =
    let b : m * up e * 2 ^ suc j < 1 * down e = is_below (m * up e * 2 ^ suc j) (1 * down e) h in
    let p : m * up e * 2 ^ suc i ≤ m * up e * 2 ^ suc j = mul-le-mul_left (m * up e) (pow_mono {i = suc i} {j = suc j} (omega arith)) in
    below_is (m * up e * 2 ^ suc i) (1 * down e) (omega arith)
below_up (fin true m e) i j l h = below_is 0 (m * up e * 2 ^ suc i + 1 * down e) (omega (arith, down_pos e))

-- a rate above 0.5 is not below it
not_half : (rate : Float) → lt (half_pow 1) rate ≡ true → lt rate (half_pow 1) ≡ false
unfolding lt
not_half nan h = refl
not_half (inf true) h = sym h
not_half (inf false) h = refl
not_half (fin false m e) h =
    let b : 1 * down e < m * up e * 2 ^ 1 = is_below (1 * down e) (m * up e * 2 ^ 1) h in
    not_below (m * up e * 2 ^ 1) (1 * down e) (omega arith)
not_half (fin true m e) h = absurd (true≢false (sym h))

at_64 : rbits_for (half_pow 64) ≡ 64
unfolding rbits_for halvings lt
at_64 = refl

at_1 : rbits_for (half_pow 1) ≡ 1
unfolding rbits_for halvings lt
at_1 = refl

low_rate : (rate : Float) → lt rate (half_pow 64) ≡ true → rbits_for rate ≡ 64
low_rate rate h = go (rbits_for rate) (rbits_halved rate).low (rbits_halved rate).high (rbits_halved rate).stop
  where
    go : (r : ℕ) → 1 ≤ r → r ≤ 64 → (r < 64 → lt rate (half_pow r) ≡ false) → r ≡ 64
    go zero a b f = absurd (omega arith)
    go (suc k) a b f = by_eq (suc k) 64 (λ e. e) (λ e. absurd (true≢false (sym (below_up rate k 63 (omega arith) h) ∙ f (omega arith))))

high_rate : (rate : Float) → lt (half_pow 1) rate ≡ true → rbits_for rate ≡ 1
unfolding rbits_for
high_rate rate h = halvings_here 63 1 rate (not_half rate h)

pub clamp_same : (rate : Float) → rbits_for (clamped rate) ≡ rbits_for rate
unfolding clamped
clamp_same rate = go (lt rate (half_pow 64)) (lt (half_pow 1) rate) refl refl
  where
    go : (a b : Bool) → lt rate (half_pow 64) ≡ a → lt (half_pow 1) rate ≡ b → rbits_for (cond a (half_pow 64) (cond b (half_pow 1) rate)) ≡ rbits_for rate
    go true b e d = at_64 ∙ sym (low_rate rate e)
    go false true e d = at_1 ∙ sym (high_rate rate d)
    go false false e d = refl
