-- `writing::shift::take_out`: what is left of the slide, done to the buffer as it is, is the whole slide of the buffer as it was (theory: Slide, PutIn). Assumes nothing.
use Rattle.std.specs.Prelude.{◌≡◌, ◌-◌}
use Rattle.theory.specs.Shape.{slots as slots-of}
use Rattle.theory.specs.number.Bytes.{le}
use Rattle.theory.specs.writing.Slide.{slide_down}
use Rattle.writing.proofs.shift.take_out.Given as goal

abbrev pub invariant-loop-t : goal.invariant-loop-t
invariant-loop-t l = slide_down l.shape.rbits l.d l.w (slots-of l.shape.qbits) l.t (l.e - l.t) (le l.buf) ≡ slide_down l.shape.rbits l.d l.w (slots-of l.shape.qbits) l.a (l.e - l.a) (le l.initial.buf)
