-- The buffer that holds the filter after an insert with a spare.
use Rattle.std.specs.Prelude.{ℕ, zero, suc, List, Result}
use Rattle.std.specs.Borrow.{MutBor}
use Rattle.theory.specs.Answer.{Answer, gives, refuses}
use Rattle.layout.specs.declared.refusal.Refusal.{Refusal}
use Rattle.growth.specs.declared.spare.Placed.{Placed}
use Rattle.growth.specs.Says.{PlacedIn, placed_says}

-- the spare, if the answer says so, else the old one; after a refusal, the old one
abbrev pub chosen : ℕ → MutBor (List ℕ) → MutBor (List ℕ) → MutBor (List ℕ)
chosen zero old spare = old
chosen (suc _) old spare = spare

abbrev pub in_spare_of : Answer PlacedIn → ℕ
in_spare_of (gives p) = p.in_spare
in_spare_of (refuses k) = 0

abbrev pub holder_of : Result Placed Refusal → MutBor (List ℕ) → MutBor (List ℕ) → MutBor (List ℕ)
holder_of placed old spare = chosen (in_spare_of (placed_says placed)) old spare
