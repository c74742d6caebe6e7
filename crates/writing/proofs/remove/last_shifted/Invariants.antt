-- `writing::remove::last_shifted`: the invariant is that behind all slots passed something is carried (specs/Shifted). Assumes nothing.
use Rattle.std.specs.Prelude.{◌+◌, ◌-◌, ◌^◌, ◌≤◌, ◌<◌}
use Rattle.theory.specs.Shape.{slots as slots-of}
use Rattle.layout.specs.Whole.{views_in}
use Rattle.writing.specs.Shifted.{Moving}
use Rattle.writing.proofs.remove.last_shifted.Given as goal

abbrev pub invariant-loop-s : goal.invariant-loop-s
invariant-loop-s l = (l.x ≤ l.s) × (l.s < 2 ^ 62) × Moving (slots-of l.lent.shape.qbits) (views_in l.lent.shape l.lent.buf.now) l.x l.s

abbrev pub decreases-loop-s : goal.decreases-loop-s
decreases-loop-s l = l.x + l.slots - l.s
