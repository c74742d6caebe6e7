-- What can be had back is told apart. Assumes nothing.
use Rattle.std.specs.Prelude.{◌≡◌}
use Rattle.std.proofs.Common.{sym, ap, ◌∙◌}

pub tells : {A B : Type 0} (says : A → B) (back : B → A) → ((a : A) → back (says a) ≡ a) → (a b : A) → says a ≡ says b → a ≡ b
tells says back is a b e = sym (is a) ∙ ap back e ∙ is b
