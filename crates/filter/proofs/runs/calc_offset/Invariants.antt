-- `filter::runs::calc_offset`: the invariant is that o is the carry before block j, round the end (specs/Offsets). Assumes nothing.
use Prim.Native.Nat.{◌^◌, ◌≤◌}
use Rattle.theory.specs.Shape.{slots}
use Rattle.layout.specs.Whole.{views_in}
use Rattle.theory.specs.reading.Walks.{Tells}
use Rattle.filter.proofs.runs.calc_offset.Given as goal

abbrev pub invariant-loop-j : goal.invariant-loop-j
invariant-loop-j l = (l.o ≤ 2 ^ 60) × Tells (slots l.lent.shape.qbits) (views_in l.lent.shape l.lent.buf.now) l.j l.o
