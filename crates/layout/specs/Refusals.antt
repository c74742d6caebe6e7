-- Refusals: the rules' number of each, and what an answer that may be one says.
use Rattle.std.specs.Prelude.{ℕ, ◌<◌, ◌≡◌, ◌==◌, if◌then◌else◌, refl, Result, Ok, Err}
use Rattle.std.specs.Result.{IsErrAnd}
use Rattle.std.proofs.Common.{ap, arith}
use Rattle.theory.specs.Answer.{Answer, gives, refuses, values, number as answered}
use Rattle.theory.specs.tools.Tells.{tells}
use Rattle.layout.specs.declared.refusal.Refusal.{Refusal}
use Rattle.layout.specs.declared.refusal.Refusal.TheVariants as r

-- the number
abbrev pub number : Refusal → ℕ
number r.Widths = 1
number r.BufferLength = 2
number r.TooMany = 3
number r.MaxQbits = 4
number r.TooFull = 5
number r.NotSound = 6
number r.NoRoom = 7
number r.Narrower = 8
number r.TooWide = 9
number r.CapacityTooLarge = 10
number r.MaximumBelowInitial = 11
number r.DestinationLength = 12
number r.NoList = 13
number r.TooLarge = 14
number r.TwoFamilies = 19

-- of a call that only asks: number k is not due, or it is
abbrev pub Asked : ℕ → Result Unit Refusal → Type 0
Asked k (Ok _) = k ≡ 0
Asked k (Err e) = k ≡ number e

-- what an answer says: values, or a number
abbrev pub says : {A B : Type 0} → (A → B) → Result A Refusal → Answer B
says f (Ok a) = gives (f a)
says f (Err e) = refuses (number e)

-- ---- a number is above 0, and tells its refusal; and what an answer says tells the answer
pub number_some : (e : Refusal) → 0 < number e
number_some r.Widths = omega arith
number_some r.BufferLength = omega arith
number_some r.TooMany = omega arith
number_some r.MaxQbits = omega arith
number_some r.TooFull = omega arith
number_some r.NotSound = omega arith
number_some r.NoRoom = omega arith
number_some r.Narrower = omega arith
number_some r.TooWide = omega arith
number_some r.CapacityTooLarge = omega arith
number_some r.MaximumBelowInitial = omega arith
number_some r.DestinationLength = omega arith
number_some r.NoList = omega arith
number_some r.TooLarge = omega arith
number_some r.TwoFamilies = omega arith

refusal_of : ℕ → Refusal
refusal_of k =
    if k == 1 then r.Widths else
    if k == 2 then r.BufferLength else
    if k == 3 then r.TooMany else
    if k == 4 then r.MaxQbits else
    if k == 5 then r.TooFull else
    if k == 6 then r.NotSound else
    if k == 7 then r.NoRoom else
    if k == 8 then r.Narrower else
    if k == 9 then r.TooWide else
    if k == 10 then r.CapacityTooLarge else
    if k == 11 then r.MaximumBelowInitial else
    if k == 12 then r.DestinationLength else
    if k == 13 then r.NoList else
    if k == 14 then r.TooLarge else
    r.TwoFamilies

back : (e : Refusal) → refusal_of (number e) ≡ e
unfolding refusal_of
back r.Widths = refl
back r.BufferLength = refl
back r.TooMany = refl
back r.MaxQbits = refl
back r.TooFull = refl
back r.NotSound = refl
back r.NoRoom = refl
back r.Narrower = refl
back r.TooWide = refl
back r.CapacityTooLarge = refl
back r.MaximumBelowInitial = refl
back r.DestinationLength = refl
back r.NoList = refl
back r.TooLarge = refl
back r.TwoFamilies = refl

pub number_tells : (a b : Refusal) → number a ≡ number b → a ≡ b
number_tells = tells number refusal_of back

pub says_tells : {A B : Type 0} (f : A → B) → ((a b : A) → f a ≡ f b → a ≡ b) → (x y : Result A Refusal) → says f x ≡ says f y → x ≡ y
says_tells f t (Ok a) (Ok b) e = ap Ok (t a b (ap (values (f a)) e))
says_tells f t (Ok a) (Err k) e = absurd (omega (arith, ap answered e, number_some k))
says_tells f t (Err j) (Ok b) e = absurd (omega (arith, ap answered e, number_some j))
says_tells f t (Err j) (Err k) e = ap Err (number_tells j k (ap answered e))

-- ---- the answer at the exit of a `?`: the refusal is handed on as it came
pub handed_on : {A : Type 0} {e : Refusal} (r : Result A Refusal) → IsErrAnd r (λ x. x ≡ e) → r ≡ Err e
handed_on (Ok _) h = absurd h
handed_on (Err x) h = ap Err h
