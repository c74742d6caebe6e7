-- What the answers of growth, merge and insert with a spare say: the number of a refusal, or the values.
use Rattle.std.specs.Prelude.{ℕ, Result, Ok, Err, ◌≡◌, refl}
use Rattle.std.proofs.Common.{ap, arith}
use Rattle.theory.specs.Answer.{Answer, refuses}
use Rattle.layout.specs.declared.numbers.Numbers.{Numbers}
use Rattle.layout.specs.declared.refusal.Refusal.{Refusal}
use Rattle.layout.specs.Refusals.{says, says_tells}
use Rattle.growth.specs.declared.spare.Placed.{Placed}
use Rattle.growth.specs.declared.spare.Placed.TheVariants.{InOld, InSpare}

-- the record of the filter in the destination
abbrev pub rebuilt_says : Result Numbers Refusal → Answer Numbers
rebuilt_says = says (λ n. n)

-- of an insert with a spare: its answer, which buffer holds the filter from now on (the spare, 1, or the old one, 0), and the record there
pub record PlacedIn : Type 0 where
  pub answer : ℕ
  pub in_spare : ℕ
  pub numbers : Numbers

abbrev pub placed_in : ℕ → ℕ → Numbers → PlacedIn
placed_in answer spare n = record { answer = answer; in_spare = spare; numbers = n }

abbrev pub placed_as : Placed → PlacedIn
placed_as (InOld m n) = placed_in m 0 n
placed_as (InSpare m n) = placed_in m 1 n

abbrev pub placed_says : Result Placed Refusal → Answer PlacedIn
placed_says = says placed_as

-- ---- what an answer says tells it
-- what says a number is a refusal
pub refused_is : {A B : Type 0} (f : A → B) (a : Result A Refusal) (k : ℕ) → says f a ≡ refuses k → (e : Refusal) × (a ≡ Err e)
refused_is f (Ok v) k x = let z : ◌≡◌ {A = ℕ} 0 1 = cc in absurd (omega arith)
refused_is f (Err e) k x = (e, refl)

pub rebuilt_tells : (a b : Result Numbers Refusal) → rebuilt_says a ≡ rebuilt_says b → a ≡ b
rebuilt_tells = says_tells (λ n. n) (λ n m e. e)

placed_as_tells : (a b : Placed) → placed_as a ≡ placed_as b → a ≡ b
placed_as_tells (InOld m n) (InOld m' n') e = ap (λ (p : PlacedIn). InOld p.answer p.numbers) e
placed_as_tells (InOld m n) (InSpare m' n') e = absurd (omega (arith, ap (λ (p : PlacedIn). p.in_spare) e))
placed_as_tells (InSpare m n) (InOld m' n') e = absurd (omega (arith, ap (λ (p : PlacedIn). p.in_spare) e))
placed_as_tells (InSpare m n) (InSpare m' n') e = ap (λ (p : PlacedIn). InSpare p.answer p.numbers) e

pub placed_tells : (a b : Result Placed Refusal) → placed_says a ≡ placed_says b → a ≡ b
placed_tells = says_tells placed_as placed_as_tells
