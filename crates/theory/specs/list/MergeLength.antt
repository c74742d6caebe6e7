-- How long the result of a merge is: where 7 is due, and that what is wanted is enough. Assumes nothing.
use Rattle.std.specs.Prelude.{ℕ, zero, suc, ◌+◌, ◌≤◌, ◌<◌, ◌≡◌, refl, ◌≢◌, List, [], map, length}
use Rattle.std.proofs.Common.{arith}
use Rattle.std.proofs.Math.Decide.{dec_lt}
use Rattle.std.proofs.lemmas.List.{length-map}
use Rattle.theory.specs.tools.Choose.{choose_by}
use Rattle.theory.specs.Shape.{capacity, fingerprint}
use Rattle.theory.specs.Joining.{joined, taken, taken_due, added_once, wanted}
use Rattle.theory.specs.list.Adding.{added_length, once_length}

-- ---- other wider
-- with a self within capacity it is due exactly if the result passes it
module _ (q : ℕ) (a l : List ℕ) where
  pub few_due : length l ≤ capacity q → 0 ≡ taken_due q a l
  unfolding taken_due
  few_due h =
      choose_by (λ z. 0 ≡ z) (dec_lt (length a) (length l)) (λ _. choose_by (λ z. 0 ≡ z) (dec_lt (capacity q) (length l)) (λ v. absurd (omega arith)) (λ _. refl)) (λ _. refl)

  pub past_due : length a ≤ capacity q → capacity q < length l → 7 ≡ taken_due q a l
  unfolding taken_due
  past_due few h =
      choose_by (λ z. 7 ≡ z) (dec_lt (length a) (length l)) (λ _. choose_by (λ z. 7 ≡ z) (dec_lt (capacity q) (length l)) (λ _. refl) (λ v. absurd (omega arith))) (λ u. absurd (omega arith))

  -- where it is not due, the result fits
  pub none_few : taken_due q a l ≡ 0 → length a ≤ capacity q → length l ≤ capacity q
  none_few e few = go (dec_lt (capacity q) (length l))
    where
      go : Dec (capacity q < length l) → length l ≤ capacity q
      go (yes z) = absurd (omega (arith, past_due few z))
      go (no z) = omega arith

pub taken_most : (keep q r : ℕ) (a b : List ℕ) → length (taken keep q r a b) ≤ length a + length b
unfolding taken
taken_most zero q r a b = omega (arith, (once_length a (map (fingerprint q r) b)).1, length-map b (fingerprint q r))
taken_most (suc keep) q r a b = omega (arith, added_length a (map (fingerprint q r) b), length-map b (fingerprint q r))

pub taken_length : (keep q r : ℕ) (a b : List ℕ) → keep ≢ 0 → length (taken keep q r a b) ≡ length a + length b
unfolding taken
taken_length zero q r a b h = absurd (h refl)
taken_length (suc keep) q r a b h = omega (arith, added_length a (map (fingerprint q r) b), length-map b (fingerprint q r))

-- ---- equal widths
-- self's list, taken into nothing
abbrev pub own_of : ℕ → List ℕ → List ℕ
own_of zero la = added_once [] la
own_of (suc keep) la = la

pub own_wanted : (keep : ℕ) (la lb : List ℕ) → (length (own_of keep la) ≤ wanted keep la lb) × (length (joined keep la lb) ≤ wanted keep la lb)
unfolding wanted joined
own_wanted zero la lb = (omega (arith, (once_length (added_once [] la) lb).0), omega arith)
own_wanted (suc keep) la lb = (omega arith, omega arith)
