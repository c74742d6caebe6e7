-- What the promises of this crate's public calls pin down: of each, any two outcomes (the answer with its record, and every lent byte where the call writes) that keep its promise coincide.
-- Checked calls: for all inputs. Quick calls: where a number 1 to 5 is due or the buffer is sound. Steps of a listing: there, from any place of the list held and from its end.
-- What is left open is in docs/EXCEPTIONS.md. Assumes nothing.
use Rattle.std.specs.Prelude.{Result, ℕ, suc, ◌<◌, ◌≡◌, ◌⊎◌, List}
use Rattle.std.proofs.Common.{sym, ap, subst, ◌∙◌, inl, inr, arith, eq-zero-or-pos}
use Rattle.std.specs.Borrow.{Bor}
use Rattle.theory.specs.Answer.{Answer, gives, refuses}
use Rattle.theory.specs.Holding.{copies}
use Rattle.theory.specs.refusals.Demands.{checked_one, quick_one, quick_checked}
use Rattle.layout.specs.declared.numbers.Numbers.{Numbers}
use Rattle.layout.specs.declared.refusal.Refusal.{Refusal}
use Rattle.layout.specs.Records.{lowest_due, Answers, AnswersQuick, fingerprint_of, HoldsOf}
use Rattle.layout.specs.Outcomes.{Settled}
use Rattle.filter.specs.declared.lookup.Lookup.{Lookup}
use Rattle.filter.specs.declared.listing.Place.{Place}
use Rattle.filter.specs.declared.listing.Stepped.{Stepped}
use Rattle.filter.specs.declared.reader.Reader.{Reader}
use Rattle.filter.specs.declared.reader.Two.{Two}
use Rattle.filter.specs.Says.{lookup_says, lookup_tells, counting_says, counting_tells, begun_says, begun_tells}
use Rattle.filter.specs.Asking.{Contains, ContainsQuick, Count, CountQuick, lookup_of}
use Rattle.filter.specs.Places.{Step, stepped, nowhere, place_of}
use Rattle.filter.specs.Listing.{Begins, Listed, step_is_one}
use Rattle.filter.specs.Reading.{Moved, TwoListed}

-- ---- calls that only answer: what they say is one, and tells the answer
module _ {E A : Type 0} (says : E → Answer A) (tells : (a b : E) → says a ≡ says b → a ≡ b) (right : List ℕ → A) (n : Numbers) (s : List ℕ) where
  abbrev No : ℕ → E → Type 0
  No k a = says a ≡ refuses k

  abbrev Right : List ℕ → E → Type 0
  Right l a = says a ≡ gives (right l)

  one : {v : Answer A} (a b : E) → says a ≡ v → says b ≡ v → a ≡ b
  one a b x y = tells a b (x ∙ sym y)

  checked_answer : (a b : E) → Answers n s right (says a) → Answers n s right (says b) → a ≡ b
  checked_answer = checked_one No Right _ _ _ _ s (λ k. one) (λ l h. one)

  quick_answer : Settled n s → (a b : E) → AnswersQuick n s right (says a) → AnswersQuick n s right (says b) → a ≡ b
  quick_answer = quick_one No Right _ _ _ _ s (λ k. one) (λ l h. one) (λ _. Unit {0})

  pub quick_checked_answer : Settled n s → (a b : E) → AnswersQuick n s right (says a) → Answers n s right (says b) → a ≡ b
  quick_checked_answer = quick_checked No Right _ _ _ _ s (λ k. one) (λ l h. one) (λ _. Unit {0})

pub contains_fingerprint_pinned : (n : Numbers) (s : List ℕ) (hash : ℕ) (a b : Result Lookup Refusal) → Contains n s hash a → Contains n s hash b → a ≡ b
contains_fingerprint_pinned n s hash = checked_answer lookup_says lookup_tells (lookup_of n (fingerprint_of n hash)) n s

pub contains_fingerprint_quick_pinned : (n : Numbers) (s : List ℕ) (hash : ℕ) → Settled n s → (a b : Result Lookup Refusal) → ContainsQuick n s hash a → ContainsQuick n s hash b → a ≡ b
contains_fingerprint_quick_pinned n s hash = quick_answer lookup_says lookup_tells (lookup_of n (fingerprint_of n hash)) n s

pub count_fingerprint_pinned : (n : Numbers) (s : List ℕ) (hash : ℕ) (a b : Result ℕ Refusal) → Count n s hash a → Count n s hash b → a ≡ b
count_fingerprint_pinned n s hash = checked_answer counting_says counting_tells (copies (fingerprint_of n hash)) n s

pub count_fingerprint_quick_pinned : (n : Numbers) (s : List ℕ) (hash : ℕ) → Settled n s → (a b : Result ℕ Refusal) → CountQuick n s hash a → CountQuick n s hash b → a ≡ b
count_fingerprint_quick_pinned n s hash = quick_answer counting_says counting_tells (copies (fingerprint_of n hash)) n s

pub begin_pinned : (n : Numbers) (s : List ℕ) (a b : Result Place Refusal) → Begins n s a → Begins n s b → a ≡ b
begin_pinned n s = checked_answer begun_says begun_tells (λ l. place_of n.qbits n.rbits l 0) n s

-- ---- steps of a listing
-- a number 1 to 5 is due, or none remain, or the buffer is sound and the place is one of the list held
abbrev pub Fixed : Numbers → List ℕ → Place → Type 0
Fixed n s p = (0 < lowest_due n s) ⊎ ((p ≡ nowhere) ⊎ ((l : List ℕ) × (k : ℕ) × HoldsOf n s l × (p ≡ place_of n.qbits n.rbits l k)))

pub step_from_pinned : (n : Numbers) (s : List ℕ) (p : Place) → Fixed n s p → (a b : Stepped) → Listed n s p a → Listed n s p b → a ≡ b
step_from_pinned n s p f a b x y = go f (eq-zero-or-pos (lowest_due n s))
  where
    go : Fixed n s p → (lowest_due n s ≡ 0) ⊎ (0 < lowest_due n s) → a ≡ b
    go f (inr d) = step_is_one a b _ _ (x.refused d) (y.refused d)
    go (inl d) (inl e) = absurd (omega arith)
    go (inr (inl z)) (inl e) = step_is_one a b _ _ (x.stays e z) (y.stays e z)
    go (inr (inr z)) (inl e) = step_is_one a b _ _ (x.right e z.0 z.2 z.1 z.3) (y.right e z.0 z.2 z.1 z.3)

-- the step with the place lent: the answer, and the place afterwards
pub step_on_pinned : (n : Numbers) (s : List ℕ) (p : Place) → Fixed n s p → (a b : Step) (p₁ p₂ : Place) → Listed n s p (stepped a p₁) → Listed n s p (stepped b p₂) → (a ≡ b) × (p₁ ≡ p₂)
step_on_pinned n s p f a b p₁ p₂ x y = (ap (λ (z : Stepped). z.step) one, ap (λ (z : Stepped). z.place) one)
  where
    one : stepped a p₁ ≡ stepped b p₂
    one = step_from_pinned n s p f _ _ x y

-- a step from a place that is pinned down leaves one that is
fixed_next : (n : Numbers) (s : List ℕ) (p : Place) → Fixed n s p → (a : Stepped) → Listed n s p a → Fixed n s a.place
fixed_next n s p f a x = go f (eq-zero-or-pos (lowest_due n s))
  where
    go : Fixed n s p → (lowest_due n s ≡ 0) ⊎ (0 < lowest_due n s) → Fixed n s a.place
    go f (inr d) = inl d
    go (inl d) (inl e) = inl d
    go (inr (inl z)) (inl e) = inr (inl (x.stays e z).place)
    go (inr (inr z)) (inl e) = inr (inr (z.0, suc z.1, z.2, (x.right e z.0 z.2 z.1 z.3).place))

-- ---- the reader
pub reader_new_pinned : (s : Bor (List ℕ)) (n : Numbers) (p : Place) (a b : Reader)
    → (a.buf ≡ s) × (a.numbers ≡ n) × (a.place ≡ p) → (b.buf ≡ s) × (b.numbers ≡ n) × (b.place ≡ p) → a ≡ b
reader_new_pinned s n p a b x y = λ i. record { buf = (x.0 ∙ sym y.0) i; numbers = (x.1 ∙ sym y.1) i; place = (x.2 ∙ sym y.2) i }

pub next_pinned : (r : Reader) → Fixed r.numbers r.buf.now r.place → (a b : Step) (r₁ r₂ : Reader) → Moved r a r₁ → Moved r b r₂ → (a ≡ b) × (r₁ ≡ r₂)
next_pinned r f a b r₁ r₂ x y =
    (ap (λ (z : Stepped). z.step) one, x.kept ∙ ap (λ (z : Stepped). record { buf = r.buf; numbers = r.numbers; place = z.place }) one ∙ sym y.kept)
  where
    one : stepped a r₁.place ≡ stepped b r₂.place
    one = step_from_pinned r.numbers r.buf.now r.place f _ _ x.listed y.listed

pub next_two_pinned : (n : Numbers) (s : List ℕ) (p : Place) → Fixed n s p → (a b : Two) → TwoListed n s p a → TwoListed n s p b → a ≡ b
next_two_pinned n s p f a b x y = λ i. record { first = (one i).step; second = (two i).step; place = (two i).place }
  where
    one : stepped a.first x.between ≡ stepped b.first y.between
    one = step_from_pinned n s p f _ _ x.first y.first

    back : y.between ≡ x.between
    back = sym (ap (λ (z : Stepped). z.place) one)

    two : stepped a.second a.place ≡ stepped b.second b.place
    two = step_from_pinned n s x.between (fixed_next n s p f _ x.first) _ _ x.second (subst (λ (m : Place). Listed n s m (stepped b.second b.place)) back y.second)
