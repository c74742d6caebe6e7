-- `filter::runs::nth_runend`: a word a turn. The invariant: what was to be passed from `at` on is what is left from digit `skip` of block k on. Assumes nothing.
use Prim.Native.Nat.{◌+◌, ◌*◌, ◌≤◌, ◌<◌}
use mathlib.Core.Path.{◌≡◌}
use Rattle.theory.specs.tools.Total.{total}
use Rattle.theory.specs.Shape.{slots}
use Rattle.theory.specs.number.Bytes.{le}
use Rattle.theory.specs.reading.Ring.{ring_at}
use Rattle.filter.proofs.runs.nth_runend.Given as goal

abbrev pub invariant-loop-k : goal.invariant-loop-k
invariant-loop-k l = (l.skip < 64) × (l.at ≤ 64 * l.k + l.skip) × (total (ring_at l.lent.shape.rbits 9 (slots l.lent.shape.qbits) (le l.lent.buf.now)) (64 * l.k + l.skip) + l.left ≡ total (ring_at l.lent.shape.rbits 9 (slots l.lent.shape.qbits) (le l.lent.buf.now)) l.at + l.n)
