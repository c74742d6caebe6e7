-- `layout::check::step::first`: slot by slot, what the queue does with the bits. Assumes nothing.
use Rattle.theory.specs.number.Field.{field}
use Rattle.theory.specs.check.Loops.{FirstLoop}
use Rattle.layout.proofs.check.step.first.Given as goal

abbrev pub invariant-loop-i : goal.invariant-loop-i
invariant-loop-i l = FirstLoop (λ j. field l.occupieds j 1) (λ j. field l.runends j 1) l.c.pending l.c.owed l.i l.pending l.owed
