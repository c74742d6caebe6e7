-- `writing::shift::put_in`: what is left of the slide, done to the buffer as it is, is the whole slide of the buffer as it was (theory: Slide, PutIn). Assumes nothing.
use Rattle.std.specs.Prelude.{◌≡◌, ◌-◌}
use Rattle.theory.specs.Shape.{slots as slots-of}
use Rattle.theory.specs.number.Bytes.{le}
use Rattle.theory.specs.writing.Slide.{slide_up}
use Rattle.writing.proofs.shift.put_in.Given as goal

abbrev pub invariant-loop-t : goal.invariant-loop-t
invariant-loop-t l = slide_up l.shape.rbits l.d l.w (slots-of l.shape.qbits) l.a (l.t - l.a) (le l.buf) ≡ slide_up l.shape.rbits l.d l.w (slots-of l.shape.qbits) l.a (l.e - l.a) (le l.initial.buf)
