-- Whether a buffer is sound is decided by its definition alone: by looking at every list of len fingerprints. No law of the image is needed.
-- Assumes nothing.
use Rattle.std.specs.Prelude.{ℕ, zero, suc, ◌*◌, ◌^◌, ◌<◌, ◌≡◌, refl, length}
use Rattle.std.proofs.Common.{subst, arith}
use mathlib.Core.Logic.Dec as D
use mathlib.Core.List.{List, [], ◌∷◌, List-discrete}
use Rattle.std.proofs.Math.Decide.{dec_le, dec_lt, ℕ_discrete}
use Rattle.theory.specs.tools.Cases.{by_eq}
use Rattle.theory.specs.Holding.{Least, Under, Ascending}
use Rattle.theory.specs.Shape.{slots}
use Rattle.theory.specs.Image.{image}
use Rattle.theory.specs.Refusal.{due}
use Rattle.theory.specs.Sound.{Sound}

-- ---- is there a number below b, and a list of k such numbers, with a property that is decided?
number_dec : (P : ℕ → Type 0) → ((f : ℕ) → Dec (P f)) → (b : ℕ) → Dec ((f : ℕ) × (f < b) × P f)
number_dec P d zero = no (λ h. omega (arith, h.1))
number_dec P d (suc b) = go (d b) (number_dec P d b)
  where
    go : Dec (P b) → Dec ((f : ℕ) × (f < b) × P f) → Dec ((f : ℕ) × (f < suc b) × P f)
    go (yes h) y = yes (b, omega arith, h)
    go (no h) (yes y) = yes (y.0, omega (arith, y.1), y.2)
    go (no h) (no y) = no (λ z. by_eq z.0 b (λ e. h (subst P e z.2)) (λ e. y (z.0, omega (arith, z.1), z.2)))

list_dec : (k b : ℕ) (P : List ℕ → Type 0) → ((l : List ℕ) → Dec (P l)) → Dec ((l : List ℕ) × (length l ≡ k) × Under b l × P l)
unfolding Under
list_dec zero b P d = D.of_iff (λ h. ([], refl, tt, h), λ z. none z.0 z.1 z.3) (d [])
  where
    none : (l : List ℕ) → length l ≡ 0 → P l → P []
    none [] e p = p
    none (f ∷ l) e p = absurd (omega arith)
list_dec (suc k) b P d =
    D.of_iff (λ h. (h.0 ∷ h.2.0, omega (arith, h.2.1), (h.1, h.2.2), h.2.3), λ z. split z.0 z.1 z.2 z.3)
    (number_dec (λ f. (l : List ℕ) × (length l ≡ k) × Under b l × P (f ∷ l)) (λ f. list_dec k b (λ l. P (f ∷ l)) (λ l. d (f ∷ l))) b)
  where
    split : (l : List ℕ) → length l ≡ suc k → Under b l → P l → (f : ℕ) × (f < b) × ((l : List ℕ) × (length l ≡ k) × Under b l × P (f ∷ l))
    split [] e u p = absurd (omega arith)
    split (f ∷ l) e u p = (f, u.0, (l, omega arith, u.1, p))

-- ---- is there a holding of len fingerprints whose image the buffer is?
least_dec : (a : ℕ) (l : List ℕ) → Dec (Least a l)
unfolding Least
least_dec a [] = yes tt
least_dec a (f ∷ l) = D.and (dec_le a f) (least_dec a l)

ascending_dec : (l : List ℕ) → Dec (Ascending l)
unfolding Ascending
ascending_dec [] = yes tt
ascending_dec (f ∷ l) = D.and (least_dec f l) (ascending_dec l)

pub sound_dec : (q r len mx : ℕ) (s : List ℕ) → Dec (Sound q r len mx s)
sound_dec q r len mx s =
    D.of_iff (λ h. found h.0 h.1, λ z. (z.none, (z.held, z.holds.many, z.holds.holding.under, (z.holds.holding.ascending, (z.holds.holding.fewer, z.holds.bytes)))))
    (D.and (ℕ_discrete (due q r len mx (length s)) 0)
    (list_dec len (slots q * 2 ^ r) Is (λ l. D.and (ascending_dec l) (D.and (dec_lt (length l) (slots q)) (List-discrete ℕ_discrete s (image q r l))))))
  where
    Is : List ℕ → Type 0
    Is l = Ascending l × ((length l < slots q) × (s ≡ image q r l))

    found : due q r len mx (length s) ≡ 0 → (l : List ℕ) × (length l ≡ len) × Under (slots q * 2 ^ r) l × Is l → Sound q r len mx s
    found e h = record {
      none = e;
      held = h.0;
      holds = record { holding = record { ascending = h.3.0; under = h.2; fewer = h.3.1.0 }; many = h.1; bytes = h.3.1.1 };
    }
