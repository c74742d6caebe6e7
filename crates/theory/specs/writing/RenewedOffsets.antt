-- Offset bytes told anew from the counts, for k blocks in a row, round the end: the loop of remove. Assumes nothing.
use Rattle.std.specs.Prelude.{ℕ, suc, ◌+◌, ◌*◌, ◌%◌, ◌≤◌, ◌<◌, min, ◌≡◌, refl, ◌≢◌}
use Rattle.std.proofs.Common.{sym, ap, ◌∙◌, arith}
use Rattle.std.proofs.Math.Decide.{ℕ_discrete}
use Rattle.theory.specs.number.Field.{put}
use Rattle.theory.specs.Image.{carry, start}
use Rattle.theory.specs.carry.Carry.{mod_window}
use Rattle.theory.specs.reading.BehindRun.{Runs}
use Rattle.theory.specs.images.Block.{block, offset_at, offset_same, offset_other, views, occupieds, runends}
use Rattle.theory.specs.writing.RaisedOffsets.{OffApart}

-- the offset bytes of blocks a + 1 .. a + k are those of the counts n, and the others are as they were
pub record Renewed (r m B a k : ℕ) (n : ℕ → ℕ) (x x' : ℕ) : Type 0 where
  pub told : (j : ℕ) → a < j → j ≤ a + k → offset_at r x' (j % B) ≡ min (carry m n (64 * j)) 255
  pub kept : (c : ℕ) → ((j : ℕ) → a < j → j ≤ a + k → j % B ≢ c) → offset_at r x' c ≡ offset_at r x c

pub renewed_none : (r m B a : ℕ) (n : ℕ → ℕ) (x : ℕ) → Renewed r m B a 0 n x x
renewed_none r m B a n x = record { told = λ j l h. absurd (omega arith); kept = λ c h. refl }

-- one block more; blocks less than a round apart are different
pub renewed_next : (r m B a k : ℕ) (n : ℕ → ℕ) (x y o : ℕ) → k < B → o ≡ carry m n (64 * (a + k + 1)) → Renewed r m B a k n x y
    → Renewed r m B a (k + 1) n x (put y (8 * block r ((a + k + 1) % B)) 8 (min o 255))
renewed_next r m B a k n x y o few eo w = record {
  told = λ j l h. at j l h (ℕ_discrete j (a + k + 1));
  kept = λ c h. offset_other r y ((a + k + 1) % B) (min o 255) (omega arith) c (h (a + k + 1) (omega arith) (omega arith)) ∙ w.kept c (λ j l i. h j l (omega arith));
}
  where
    y' : ℕ
    y' = put y (8 * block r ((a + k + 1) % B)) 8 (min o 255)

    at : (j : ℕ) → a < j → j ≤ a + (k + 1) → Dec (j ≡ a + k + 1) → offset_at r y' (j % B) ≡ min (carry m n (64 * j)) 255
    at j l h (yes e) = rw e (offset_same r y ((a + k + 1) % B) (min o 255) (omega arith) ∙ ap (λ z. min z 255) eo)
    at j l h (no e) =
        offset_other r y ((a + k + 1) % B) (min o 255) (omega arith) (j % B)
        (λ z. e (sym (mod_window B (suc a) (a + k + 1) j (omega arith) (omega arith) (omega arith) (omega arith) z)))
        ∙ w.told j l (omega arith)

-- writes to offset bytes leave the runs
pub runs_apart : (r m B : ℕ) (n : ℕ → ℕ) (x y : ℕ) → OffApart r B x y → Runs m n (views r x) → Runs m n (views r y)
runs_apart r m B n x y p w = record {
  round = w.round;
  occupieds = λ t b. p.cells 1 1 (occupieds r) t ∙ w.occupieds t b;
  runends = record {
    used = λ t j b. p.cells 9 1 (runends r) ((start m n t + j) % m) ∙ w.runends.used t j b;
    free = λ t f. p.cells 9 1 (runends r) (t % m) ∙ w.runends.free t f;
  };
}
