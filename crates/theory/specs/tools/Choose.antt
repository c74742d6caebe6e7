-- The one or the other, by a test. Assumes nothing.
use Rattle.std.specs.Prelude.{◌≡◌, refl}

unfoldable pub choose : {A B : Type 0} → Dec A → B → B → B
choose (yes h) a b = a
choose (no h) a b = b

pub choose_yes : {A B : Type 0} (d : Dec A) (a b : B) → A → choose d a b ≡ a
unfolding choose
choose_yes (yes h) a b x = refl
choose_yes (no h) a b x = absurd (h x)

pub choose_no : {A B : Type 0} (d : Dec A) (a b : B) → ¬ A → choose d a b ≡ b
unfolding choose
choose_no (yes h) a b x = absurd (x h)
choose_no (no h) a b x = refl

pub choose_by : {A B : Type 0} (P : B → Type 0) (d : Dec A) {a b : B} → (A → P a) → (¬ A → P b) → P (choose d a b)
unfolding choose
choose_by P (yes h) f g = f h
choose_by P (no h) f g = g h
