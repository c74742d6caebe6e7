-- What the answers of lookup, count and listing say: the number of a refusal, or the values for each case.
use Rattle.std.specs.Prelude.{Option, Some, None, Result, ℕ, ◌≡◌, refl}
use Rattle.std.proofs.Common.{ap, arith}
use Rattle.theory.specs.Answer.{Answer, Looked, Next, no_next}
use Rattle.layout.specs.declared.refusal.Refusal.{Refusal}
use Rattle.layout.specs.Refusals.{says, says_tells}
use Rattle.filter.specs.declared.lookup.Lookup.{Lookup}
use Rattle.filter.specs.declared.lookup.Lookup.TheVariants.{Held, Absent}
use Rattle.filter.specs.declared.listing.Place.{Place}

-- yes or no, and the remainders compared
abbrev pub looked_as : Lookup → Looked
looked_as (Held k) = record { held = 1; compared = k }
looked_as (Absent k) = record { held = 0; compared = k }

abbrev pub lookup_says : Result Lookup Refusal → Answer Looked
lookup_says = says looked_as

-- the count
abbrev pub counting_says : Result ℕ Refusal → Answer ℕ
counting_says = says (λ m. m)

-- the first place
abbrev pub begun_says : Result Place Refusal → Answer Place
begun_says = says (λ p. p)

-- a fingerprint, or done
abbrev pub next_as : Option ℕ → Next
next_as (Some f) = record { found = 1; fingerprint = f }
next_as None = no_next

abbrev pub step_says : Result (Option ℕ) Refusal → Answer Next
step_says = says next_as

-- ---- what an answer says tells it
looked_tells : (a b : Lookup) → looked_as a ≡ looked_as b → a ≡ b
looked_tells (Held j) (Held k) e = ap (λ (z : Looked). Held z.compared) e
looked_tells (Held j) (Absent k) e = absurd (omega (arith, ap (λ (z : Looked). z.held) e))
looked_tells (Absent j) (Held k) e = absurd (omega (arith, ap (λ (z : Looked). z.held) e))
looked_tells (Absent j) (Absent k) e = ap (λ (z : Looked). Absent z.compared) e

next_tells : (a b : Option ℕ) → next_as a ≡ next_as b → a ≡ b
next_tells (Some f) (Some g) e = ap (λ (z : Next). Some z.fingerprint) e
next_tells (Some f) None e = absurd (omega (arith, ap (λ (z : Next). z.found) e))
next_tells None (Some g) e = absurd (omega (arith, ap (λ (z : Next). z.found) e))
next_tells None None e = refl

pub lookup_tells : (a b : Result Lookup Refusal) → lookup_says a ≡ lookup_says b → a ≡ b
lookup_tells = says_tells looked_as looked_tells

pub counting_tells : (a b : Result ℕ Refusal) → counting_says a ≡ counting_says b → a ≡ b
counting_tells = says_tells (λ m. m) (λ a b e. e)

pub begun_tells : (a b : Result Place Refusal) → begun_says a ≡ begun_says b → a ≡ b
begun_tells = says_tells (λ p. p) (λ a b e. e)

pub step_tells : (a b : Result (Option ℕ) Refusal) → step_says a ≡ step_says b → a ≡ b
step_tells = says_tells next_as next_tells
