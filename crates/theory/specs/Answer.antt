-- What a call answers: values, or the number of a refusal alone. For the answers of lookup, count, listing, insert, remove, growth, merge and insert with a spare one definition each
-- says which (specs/Says of filter, writing and growth); promises and the C interface go by it.
use Rattle.std.specs.Prelude.{ℕ}

pub data Answer (A : Type 0) : Type 0 where
  gives : A → Answer A
  refuses : ℕ → Answer A

-- the number, 0 where it is no refusal
abbrev pub number : {A : Type 0} → Answer A → ℕ
number (gives v) = 0
number (refuses k) = k

-- the values, and what stands for them in a refusal
abbrev pub values : {A : Type 0} → A → Answer A → A
values z (gives v) = v
values z (refuses k) = z

-- of a lookup: yes, 1, or no, 0, and the remainders compared
pub record Looked : Type 0 where
  pub held : ℕ
  pub compared : ℕ

-- of a listing's step: a fingerprint, with 1 before it, or done, with 0 before 0
pub record Next : Type 0 where
  pub found : ℕ
  pub fingerprint : ℕ

-- what stands for them in a refusal
abbrev pub not_looked : Looked
not_looked = record { held = 0; compared = 0 }

abbrev pub no_next : Next
no_next = record { found = 0; fingerprint = 0 }
