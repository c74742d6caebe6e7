-- `writing::shift::inc_offsets`: what is left of the bumps, done to the buffer as it is, is the whole of them (theory: RaisedOffsets). Assumes nothing.
use Rattle.std.specs.Prelude.{◌≡◌, ◌+◌, ◌-◌}
use Rattle.theory.specs.Shape.{blocks as blocks-of}
use Rattle.theory.specs.number.Bytes.{le}
use Rattle.theory.specs.writing.RaisedOffsets.{bump}
use Rattle.writing.proofs.shift.inc_offsets.Given as goal

abbrev pub invariant-loop-b : goal.invariant-loop-b
invariant-loop-b l = bump l.shape.rbits (blocks-of l.shape.qbits) l.b (l.a + l.k - l.b) (le l.buf) ≡ bump l.shape.rbits (blocks-of l.shape.qbits) l.a l.k (le l.initial.buf)
