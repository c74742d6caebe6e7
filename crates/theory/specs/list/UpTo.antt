-- Fingerprints inserted one after the other, each only while fewer than c copies are there: with c = 1 absent ones are added once each, with a c
-- that is out of reach all are added. Assumes nothing.
use Rattle.std.specs.Prelude.{ℕ, ◌+◌, ◌^◌, ◌≤◌, ◌≡◌, refl, List, [], ◌∷◌, map, length}
use Rattle.std.proofs.Common.{ap, ap₂, ◌∙◌, arith, mod-eq_of_lt}
use Rattle.theory.specs.Holding.{more, Ascending, Under}
use Rattle.theory.specs.Shape.{fingerprint}
use Rattle.theory.specs.Changing.{up_to}
use Rattle.theory.specs.Joining.{added, added_once}
use Rattle.theory.specs.list.RuleCases.{up_to_by, up_to_more}
use Rattle.theory.specs.list.Copies.{copies_le, copies_nil, copies_tell}
use Rattle.theory.specs.list.More.{more_length, more_ascending}
use Rattle.theory.specs.list.Adding.{copies_added, added_keeps}

unfoldable pub added_up_to : ℕ → List ℕ → List ℕ → List ℕ
added_up_to c l [] = l
added_up_to c l (f ∷ b) = added_up_to c (up_to c f l) b

pub up_to_one : (l b : List ℕ) → added_up_to 1 l b ≡ added_once l b
unfolding added_up_to added_once
up_to_one l [] = refl
up_to_one l (f ∷ b) = up_to_one (up_to 1 f l) b

pub up_to_all : (c : ℕ) (l b : List ℕ) → length l + length b ≤ c → added_up_to c l b ≡ added l b
unfolding added_up_to added
up_to_all c l [] h = refl
up_to_all c l (f ∷ b) h =
    let e = up_to_more c f l (omega (arith, copies_le f l)) in
    ap (λ (z : List ℕ). added_up_to c z b) e ∙ up_to_all c (more f l) b (omega (arith, more_length f l))

-- none is lost
pub up_to_grows : (c : ℕ) (l b : List ℕ) → length l ≤ length (added_up_to c l b)
unfolding added_up_to
up_to_grows c l [] = omega arith
up_to_grows c l (f ∷ b) =
    let d : length l ≤ length (up_to c f l) = up_to_by (λ (z : List ℕ). length l ≤ length z) c f l (λ _. omega arith) (λ _. omega (arith, more_length f l)) in
    omega (arith, up_to_grows c (up_to c f l) b)

-- an ascending list added to nothing is itself
pub added_alone : (a : List ℕ) → Ascending a → added [] a ≡ a
unfolding Ascending
added_alone a h =
    copies_tell (added [] a) a (added_keeps Ascending (λ _. Unit {0}) (λ f b q. tt) (λ f a b q p. more_ascending f a p) [] a tt tt) h (λ f. omega (arith, copies_added f [] a, copies_nil f))

-- fingerprints of the width are as they are, cut to it
pub cut_same : (q r : ℕ) (l : List ℕ) → Under (2 ^ (q + r)) l → map (fingerprint q r) l ≡ l
unfolding Under fingerprint
cut_same q r [] h = refl
cut_same q r (f ∷ l) h = ap₂ ◌∷◌ (mod-eq_of_lt h.0) (cut_same q r l h.1)
