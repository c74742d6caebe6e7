-- An export answers with a plain struct that shows an answer which keeps the promise of the call inside; so what pins that answer pins the struct. Assumes nothing.
use Rattle.std.specs.Prelude.{◌≡◌}
use Rattle.std.proofs.Common.{sym, ap, subst, ◌∙◌}

pub record Shown {A B : Type 0} (Right : A → Type 0) (plain : A → B) (b : B) : Type 0 where
  pub answer : A
  pub right : Right answer
  pub is : b ≡ plain answer

-- of a call inside on n, where n is m
pub shown_of : {A B N : Type 0} (Right : N → A → Type 0) (plain : A → B) (n m : N) → n ≡ m → (a : A) → Right n a → (b : B) → b ≡ plain a → Shown (Right m) plain b
shown_of Right plain n m e a right b is = record { answer = a; right = subst (λ z. Right z a) e right; is = is }

-- of an answer that keeps another promise too
pub shown_also : {A B : Type 0} (Right Also : A → Type 0) (plain : A → B) (b : B) → ((a : A) → Right a → Also a) → Shown Right plain b → Shown Also plain b
shown_also Right Also plain b also x = record { answer = x.answer; right = also x.answer x.right; is = x.is }

-- of calls that only answer
pub shown_one : {A B : Type 0} (Right : A → Type 0) (plain : A → B) → ((a a' : A) → Right a → Right a' → a ≡ a') → (b b' : B) → Shown Right plain b → Shown Right plain b' → b ≡ b'
shown_one Right plain one b b' x y = x.is ∙ ap plain (one x.answer y.answer x.right y.right) ∙ sym y.is

-- of calls that write: with what they leave
pub shown_written : {A B T : Type 0} (Right : A → T → Type 0) (plain : A → B) (t u : T) → ((a a' : A) → Right a t → Right a' u → (a ≡ a') × (t ≡ u))
    → (b b' : B) → Shown (λ a. Right a t) plain b → Shown (λ a. Right a u) plain b' → (b ≡ b') × (t ≡ u)
shown_written Right plain t u one b b' x y =
    let e = one x.answer y.answer x.right y.right in
    (x.is ∙ ap plain e.0 ∙ sym y.is, e.1)
