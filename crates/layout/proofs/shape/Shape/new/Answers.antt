-- `layout::shape::Shape::new`: a shape exactly if number 1 is not due. Assumes nothing.
use native.Mathlib.Omega.{arith}
use mathlib.Core.Path.{refl}
use Rattle.theory.specs.refusals.ByNumber.{widths_none, widths_due_lem}
use Rattle.layout.proofs.shape.Shape.new.Goals as goal

pub returns-then-qbits-lt-MIN_QBITS : goal.returns-then-qbits-lt-MIN_QBITS
returns-then-qbits-lt-MIN_QBITS c = widths_due_lem _ _ (λ w. omega (arith, w.low))

pub returns-then-qbits-gt-MAX_QBITS : goal.returns-then-qbits-gt-MAX_QBITS
returns-then-qbits-gt-MAX_QBITS c = widths_due_lem _ _ (λ w. omega (arith, w.high))

pub returns-then-rbits-lt1 : goal.returns-then-rbits-lt1
returns-then-rbits-lt1 c = widths_due_lem _ _ (λ w. omega (arith, w.some))

pub returns-then-qbits-rbits : goal.returns-then-qbits-rbits
returns-then-qbits-rbits c = widths_due_lem _ _ (λ w. omega (arith, w.sum))

pub returns : goal.returns
returns c = (widths_none _ _ (record { low = omega arith; high = omega arith; some = omega arith; sum = omega arith }), refl, refl)
