-- What the answers of insert and remove say: the number of a refusal, or the values for each case.
use Rattle.std.specs.Prelude.{Option, Some, None, Result, ℕ, ◌≡◌, refl}
use Rattle.std.proofs.Common.{ap, arith}
use Rattle.theory.specs.Answer.{Answer}
use Rattle.layout.specs.declared.numbers.Numbers.{Numbers}
use Rattle.layout.specs.declared.refusal.Refusal.{Refusal}
use Rattle.layout.specs.Records.{Changed, changed}
use Rattle.layout.specs.Refusals.{says, says_tells}

-- the answer, and the record afterwards
abbrev pub inserted_as : ℕ × Numbers → Changed
inserted_as p = changed p.0 p.1

abbrev pub inserted_says : Result (ℕ × Numbers) Refusal → Answer Changed
inserted_says = says inserted_as

-- true, 1, with the record afterwards; or false, 0, with the record given
abbrev pub removed_as : Numbers → Option Numbers → Changed
removed_as n (Some n') = changed 1 n'
removed_as n None = changed 0 n

abbrev pub removed_says : Numbers → Result (Option Numbers) Refusal → Answer Changed
removed_says n = says (removed_as n)

-- ---- what an answer says tells it
inserted_as_tells : (p q : ℕ × Numbers) → inserted_as p ≡ inserted_as q → p ≡ q
inserted_as_tells p q e = ap (λ (c : Changed). (c.answer, c.numbers)) e

removed_as_tells : (n : Numbers) (a b : Option Numbers) → removed_as n a ≡ removed_as n b → a ≡ b
removed_as_tells n (Some x) (Some y) e = ap (λ (c : Changed). Some c.numbers) e
removed_as_tells n (Some x) None e = absurd (omega (arith, ap (λ (c : Changed). c.answer) e))
removed_as_tells n None (Some y) e = absurd (omega (arith, ap (λ (c : Changed). c.answer) e))
removed_as_tells n None None e = refl

pub inserted_tells : (a b : Result (ℕ × Numbers) Refusal) → inserted_says a ≡ inserted_says b → a ≡ b
inserted_tells = says_tells inserted_as inserted_as_tells

pub removed_tells : (n : Numbers) (a b : Result (Option Numbers) Refusal) → removed_says n a ≡ removed_says n b → a ≡ b
removed_tells n = says_tells (removed_as n) (removed_as_tells n)
