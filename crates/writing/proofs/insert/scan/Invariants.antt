-- `writing::insert::scan`: the invariant is that k places are passed, none larger, and how many of them are equal (specs/CopyIn). Assumes nothing.
use Rattle.std.specs.Prelude.{◌-◌, ◌<◌}
use Rattle.theory.specs.Shape.{slots as slots-of}
use Rattle.layout.specs.Whole.{views_in}
use Rattle.writing.specs.CopyIn.{Scanning}
use Rattle.writing.proofs.insert.scan.Given as goal

abbrev pub invariant-loop-s : goal.invariant-loop-s
invariant-loop-s l = (l.k < slots-of l.lent.shape.qbits) × (Scanning (slots-of l.lent.shape.qbits) (views_in l.lent.shape l.lent.buf.now) l.at l.rem l.k l.copies)

abbrev pub decreases-loop-s : goal.decreases-loop-s
decreases-loop-s l = l.slots - l.k
