-- All that is said of a filter's record: its numbers, its shape, the record at other widths or with another len, its family, what is due of it and what it holds,
-- and the forms of the calls on it.
use Rattle.std.specs.Prelude.{ℕ, ◌+◌, ◌≤◌, ◌<◌, ◌≡◌, ◌≢◌, List, length}
use Rattle.theory.specs.Answer.{Answer, gives, refuses}
use Rattle.theory.specs.Image.{image}
use Rattle.theory.specs.Refusal.{due}
use Rattle.theory.specs.Shape.{capacity, fingerprint}
use Rattle.theory.specs.Sound.{Sound, Holds, Checked, Quick}
use Rattle.layout.specs.declared.numbers.Numbers.{Numbers}
use Rattle.layout.specs.declared.shape.Shape.{Shape}

-- ---- the record
-- the record of an empty filter
abbrev pub empty_record : ℕ → ℕ → ℕ → ℕ → Numbers
empty_record q r mx family = record { len = 0; qbits = q; rbits = r; max_qbits = mx; family = family }

-- its shape, and the bits of a fingerprint
abbrev pub shape_of : Numbers → Shape
shape_of n = record { qbits = n.qbits; rbits = n.rbits }

abbrev pub width_of : Numbers → ℕ
width_of n = n.qbits + n.rbits

-- the record at other widths, with this len, and with another len alone
abbrev pub with_shape : Numbers → Shape → ℕ → Numbers
with_shape n h len = record { len = len; qbits = h.qbits; rbits = h.rbits; max_qbits = n.max_qbits; family = n.family }

abbrev pub with_len : Numbers → ℕ → Numbers
with_len n len = with_shape n (shape_of n) len

-- n' is of the family of n
abbrev pub OfFamily : Numbers → Numbers → Type 0
OfFamily n n' = n'.family ≡ n.family

-- ---- what is due of it, and what it holds
-- the lowest of numbers 1 to 5 that is due, or 0
abbrev pub lowest_due : Numbers → List ℕ → ℕ
lowest_due n s = due n.qbits n.rbits n.len n.max_qbits (length s)

abbrev pub SoundOf : Numbers → List ℕ → Type 0
SoundOf n s = Sound n.qbits n.rbits n.len n.max_qbits s

-- the buffer s is the image of l, a holding of len fingerprints
abbrev pub HoldsOf : Numbers → List ℕ → List ℕ → Type 0
HoldsOf n s l = Holds n.qbits n.rbits n.len s l

-- len is at most capacity
abbrev pub Within : Numbers → Type 0
Within n = n.len ≤ capacity n.qbits

-- n' is n but for len, which is at most the capacity of n
pub record Keeps (n n' : Numbers) : Type 0 where
  pub rest : n' ≡ with_len n n'.len
  pub within : n'.len ≤ capacity n.qbits

-- the fingerprint that a hash has in a filter
abbrev pub fingerprint_of : Numbers → ℕ → ℕ
fingerprint_of n hash = fingerprint n.qbits n.rbits hash

-- ---- calls on it
-- a checked call, and a quick one
abbrev pub CheckedOn : Numbers → List ℕ → (ℕ → Type 0) → (List ℕ → Type 0) → Type 0
CheckedOn n s refused right = Checked n.qbits n.rbits n.len n.max_qbits s refused right

abbrev pub QuickOn : Numbers → List ℕ → (ℕ → Type 0) → (List ℕ → Type 0) → Type 0 → Type 0
QuickOn n s refused right left = Quick n.qbits n.rbits n.len n.max_qbits s refused right left

-- a checked call on two filters: the first one's numbers 1 to 6, then the second one's
abbrev pub CheckedBoth : Numbers → List ℕ → Numbers → List ℕ → (ℕ → Type 0) → (List ℕ → List ℕ → Type 0) → Type 0
CheckedBoth n s m o refused right = CheckedOn n s refused (λ la. CheckedOn m o refused (right la))

-- of a call on filters of one family: number 19 if the families differ, else what is right
pub record OneFamily (n m : Numbers) (refused : ℕ → Type 0) (right : Type 0) : Type 0 where
  pub differ : n.family ≢ m.family → refused 19
  pub same : n.family ≡ m.family → right

-- of a call that only answers: a number, or the values that are right for the list held
abbrev pub Answers : {A : Type 0} → Numbers → List ℕ → (List ℕ → A) → Answer A → Type 0
Answers n s right a = CheckedOn n s (λ k. a ≡ refuses k) (λ l. a ≡ gives (right l))

abbrev pub AnswersQuick : {A : Type 0} → Numbers → List ℕ → (List ℕ → A) → Answer A → Type 0
AnswersQuick n s right a = QuickOn n s (λ k. a ≡ refuses k) (λ l. a ≡ gives (right l)) (Unit {0})

-- of a call that writes a buffer, which was d and is t: number k is due, and it stays as it was; or none is, v is answered, and it is the image of l at the widths of n
pub record Leaves {A : Type 0} (k : ℕ) (v : A) (n : Numbers) (l d : List ℕ) (a : Answer A) (t : List ℕ) : Type 0 where
  pub refused : 0 < k → (a ≡ refuses k) × (t ≡ d)
  pub done : k ≡ 0 → (a ≡ gives v) × (t ≡ image n.qbits n.rbits l)

-- what a writer gives: its answer, and the record from now on
pub record Changed : Type 0 where
  pub answer : ℕ
  pub numbers : Numbers

abbrev pub changed : ℕ → Numbers → Changed
changed answer n = record { answer = answer; numbers = n }
