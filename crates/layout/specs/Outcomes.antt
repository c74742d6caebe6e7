-- When two outcomes of a call are one. An outcome is an answer, which what it says tells, with what the call leaves. Assumes nothing.
use Rattle.std.specs.Prelude.{ℕ, ◌<◌, ◌≡◌, refl, ◌⊎◌, List}
use Rattle.std.proofs.Common.{sym, ap, ◌∙◌, inl, inr, arith, eq-zero-or-pos}
use Rattle.std.proofs.Math.Decide.{ℕ_discrete}
use Rattle.theory.specs.Answer.{Answer, gives, refuses, number, values}
use Rattle.theory.specs.Image.{image}
use Rattle.layout.specs.declared.numbers.Numbers.{Numbers}
use Rattle.layout.specs.Records.{lowest_due, SoundOf, OneFamily, Leaves}

-- a number 1 to 5 is due, or the buffer is sound
abbrev pub Settled : Numbers → List ℕ → Type 0
Settled n s = (0 < lowest_due n s) ⊎ SoundOf n s

-- outcomes that say and leave the same are one, and of one both parts are
pub alike : {E A R : Type 0} (says : E → A) → ((a b : E) → says a ≡ says b → a ≡ b) → {v : A} {t : R} (x y : E × R) → (says x.0 ≡ v) × (x.1 ≡ t) → (says y.0 ≡ v) × (y.1 ≡ t) → x ≡ y
alike says tells x y p q =
    let e = tells x.0 y.0 (p.0 ∙ sym q.0) in
    λ i. (e i, (p.1 ∙ sym q.1) i)

pub apart : {E R : Type 0} (x y : E × R) → x ≡ y → (x.0 ≡ y.0) × (x.1 ≡ y.1)
apart x y e = (ap (λ z. z.0) e, ap (λ z. z.1) e)

-- a call that writes: what is due, what is answered and what is held leave one outcome
pub leaves_one : {E A : Type 0} (says : E → Answer A) → ((a b : E) → says a ≡ says b → a ≡ b) → (k : ℕ) (v : A) (n : Numbers) (l d : List ℕ) (x y : E × List ℕ)
    → Leaves k v n l d (says x.0) x.1 → Leaves k v n l d (says y.0) y.1 → x ≡ y
leaves_one says tells k v n l d x y p q = go (eq-zero-or-pos k)
  where
    go : (k ≡ 0) ⊎ (0 < k) → x ≡ y
    go (inl z) = alike says tells x y (p.done z) (q.done z)
    go (inr z) = alike says tells x y (p.refused z) (q.refused z)

-- an answer that is no refusal: none was due, and both are as they are to be
pub leaves_given : {A : Type 0} (k : ℕ) (v : A) (n : Numbers) (l d : List ℕ) (a : A) (t : List ℕ) → Leaves k v n l d (gives a) t → (k ≡ 0) × (a ≡ v) × (t ≡ image n.qbits n.rbits l)
leaves_given k v n l d a t p = go (eq-zero-or-pos k)
  where
    go : (k ≡ 0) ⊎ (0 < k) → (k ≡ 0) × (a ≡ v) × (t ≡ image n.qbits n.rbits l)
    go (inl z) = (z, ap (values a) (p.done z).0, (p.done z).1)
    go (inr z) = absurd (omega (arith, ap number (p.refused z).0))

-- a call on filters of one family: two outcomes that are one in either case are one, and one that is not refused 19 was of one family
module _ {O : Type 0} (n m : Numbers) (refused : ℕ → O → Type 0) (right : O → Type 0) (a : O) (p : OneFamily n m (λ k. refused k a) (right a)) where
  pub family_one : ((a b : O) → refused 19 a → refused 19 b → a ≡ b) → ((a b : O) → right a → right b → a ≡ b) → (b : O) → OneFamily n m (λ k. refused k b) (right b) → a ≡ b
  family_one one same b q = go (ℕ_discrete n.family m.family)
    where
      go : Dec (n.family ≡ m.family) → a ≡ b
      go (yes e) = same a b (p.same e) (q.same e)
      go (no h) = one a b (p.differ h) (q.differ h)

  pub family_given : ¬ (refused 19 a) → (n.family ≡ m.family) × right a
  family_given never = go (ℕ_discrete n.family m.family)
    where
      go : Dec (n.family ≡ m.family) → (n.family ≡ m.family) × right a
      go (yes e) = (e, p.same e)
      go (no h) = absurd (never (p.differ h))

-- how a call comes to what it leaves
module _ {A : Type 0} (k : ℕ) (v : A) (n : Numbers) (l d : List ℕ) where
  pub leaves_refused : (j : ℕ) → k ≡ j → 0 < j → Leaves k v n l d (refuses j) d
  leaves_refused j e h = record { refused = λ _. (ap refuses (sym e), refl); done = λ z. absurd (omega arith) }

  pub leaves_done : k ≡ 0 → (a : A) → a ≡ v → (t : List ℕ) → t ≡ image n.qbits n.rbits l → Leaves k v n l d (gives a) t
  leaves_done e a i t g = record { refused = λ z. absurd (omega arith); done = λ _. (ap gives i, g) }
