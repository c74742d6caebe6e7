-- `writing::remove::last_equal`: the invariant is that k places are passed, and which of them is the last equal one (specs/CopyOut). Assumes nothing.
use Rattle.std.specs.Prelude.{◌-◌, ◌<◌}
use Rattle.theory.specs.Shape.{slots as slots-of}
use Rattle.layout.specs.Whole.{views_in}
use Rattle.writing.specs.CopyOut.{Looking}
use Rattle.writing.proofs.remove.last_equal.Given as goal

abbrev pub invariant-loop-last : goal.invariant-loop-last
invariant-loop-last l = (l.k < slots-of l.lent.shape.qbits) × (Looking (slots-of l.lent.shape.qbits) (views_in l.lent.shape l.lent.buf.now) l.at l.rem l.k l.last)

abbrev pub decreases-loop-last : goal.decreases-loop-last
decreases-loop-last l = l.slots - l.k
