-- `filter::runs::blocks_back`: no byte passed tells its carry. Assumes nothing.
use Prim.Native.Nat.{ℕ, ◌+◌, ◌-◌, ◌%◌, ◌≤◌, ◌<◌}
use Rattle.theory.specs.number.Bytes.{le}
use Rattle.theory.specs.images.Block.{offset_at}
use Rattle.filter.proofs.runs.blocks_back.Given as goal

abbrev pub invariant-loop-k : goal.invariant-loop-k
invariant-loop-k l = (j : ℕ) → 1 ≤ j → j < l.k → 255 ≤ offset_at l.lent.shape.rbits (le l.lent.buf.now) ((l.b + l.blocks - j) % l.blocks)
