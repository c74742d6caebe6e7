-- What the functions that write text promise.
use Rattle.std.specs.Prelude.{ℕ, ◌≡◌, List, ◌++◌, length, drop}
use Rattle.std.proofs.Common.{sym, ap, ◌∙◌}

-- a text stands at the start of a buffer, and the bytes behind it are as they were
pub record Written (text before after : List ℕ) (count : ℕ) : Type 0 where
  pub many : count ≡ length text
  pub whole : after ≡ text ++ drop count before

-- two outcomes that keep such a promise coincide
pub written_one : (text before a b : List ℕ) (i j : ℕ) → Written text before a i → Written text before b j → (a ≡ b) × (i ≡ j)
written_one text before a b i j v w =
    let e : i ≡ j = v.many ∙ sym w.many in
    (v.whole ∙ ap (λ (k : ℕ). text ++ drop k before) e ∙ sym w.whole, e)
