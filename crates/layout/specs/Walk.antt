-- The check's cursor and what its steps see.
use Rattle.std.specs.Prelude.{ℕ, ◌*◌, ◌≤◌, List}
use Rattle.theory.specs.check.Step as theory
use Rattle.theory.specs.check.Buffer.{sight_on}
use Rattle.layout.specs.declared.shape.Shape.{Shape}
use Rattle.layout.specs.declared.check.step.Cursor.{Cursor}

-- the code's cursor as the theory's
abbrev pub cur : Cursor → theory.Cursor
cur c = record { passed = c.passed; owed = c.owed; pending = c.pending; used = c.used; bad = c.bad }

-- what a step sees of block b of the buffer s
abbrev pub sees : Shape → List ℕ → ℕ → theory.Sight
sees shape s b = sight_on shape.qbits shape.rbits s b

-- at most k blocks are passed, and no count is above the number of their slots, so that no sum wraps
pub record Fits (k : ℕ) (c : Cursor) : Type 0 where
  pub passed : c.passed ≤ k
  pub owed : c.owed ≤ 64 * c.passed
  pub pending : c.pending ≤ 64 * c.passed
  pub used : c.used ≤ 64 * c.passed
  pub bad : c.bad ≤ 1
