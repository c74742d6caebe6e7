-- The check on a run that wraps (docs/RULES.md, "Examples at the edges"), whole and damaged: by computation from the definitions. Assumes nothing.
use Rattle.std.specs.Prelude.{ℕ, ◌+◌, ◌*◌, ◌≡◌, refl, [], ◌∷◌}
use Rattle.std.proofs.Math.Decide.{ℕ_discrete, dec_le, dec_lt}
use Rattle.theory.specs.tools.Choose.{choose}
use Rattle.theory.specs.tools.Total.{total}
use Rattle.theory.specs.Image.{Views}
use Rattle.theory.specs.check.Queue.{pend, owed, dist, busy}
use Rattle.theory.specs.check.Step.{Cursor, begin, sight, fault, differ, faults, uses, first_round, second_round, step, steps}

-- the check's cursor after both rounds on the image of three copies of 3f07 at 6/8 (occupied 63, runend 1, remainder 7 in 63, 0 and 1, offset 2), with a more in
-- the remainder of slot 5, o more in the occupied bit of slot 9, d more in the offset byte and t in the last eight bytes
tried : ℕ → ℕ → ℕ → ℕ → Cursor
tried a o d t = steps 1 damaged t 2 begin
  where
    at : ℕ → ℕ → ℕ
    at s x = choose (ℕ_discrete x s) 1 0

    damaged : Views
    damaged = record {
      occupied = λ x. at 63 x + o * at 9 x;
      runend = at 1;
      remainder = λ x. 7 * (at 63 x + at 0 x + at 1 x) + a * at 5 x;
      offset = λ b. 2 + d;
    }

-- three slots used and no test failed; then a stale remainder, a wrong offset byte, a stray bit behind the blocks, each of which fails a test;
-- then an occupied bit without a runend, which fills every slot from 9 on and leaves more pending than owed
tried_all : tried 0 0 0 0 ∷ tried 1 0 0 0 ∷ tried 0 0 1 0 ∷ tried 0 0 0 4 ∷ tried 0 1 0 0 ∷ []
    ≡ record { passed = 2; owed = 1; pending = 1; used = 3; bad = 0 }
    ∷ record { passed = 2; owed = 1; pending = 1; used = 3; bad = 1 }
    ∷ record { passed = 2; owed = 1; pending = 1; used = 3; bad = 1 }
    ∷ record { passed = 2; owed = 1; pending = 1; used = 3; bad = 1 }
    ∷ record { passed = 2; owed = 1; pending = 3; used = 64; bad = 1 }
    ∷ []
unfolding tried steps step first_round second_round sight pend owed uses faults fault differ dist busy total choose dec_lt dec_le ℕ_discrete
tried_all = refl
