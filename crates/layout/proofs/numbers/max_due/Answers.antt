-- `layout::numbers::max_due`: number 4, question by question. Assumes nothing.
use native.Mathlib.Omega.{arith}
use Rattle.theory.specs.refusals.ByNumber.{max_absent, max_good, max_bad}
use Rattle.layout.proofs.numbers.max_due.Goals as goal

pub returns-then-max_qbits-eq0 : goal.returns-then-max_qbits-eq0
returns-then-max_qbits-eq0 c = max_absent _ _ _ c.if-max_qbits-eq0.true

pub returns-then-max_qbits-shape : goal.returns-then-max_qbits-shape
returns-then-max_qbits-shape c = max_bad _ _ _ c.if-max_qbits-eq0.false (λ h. omega arith)

pub returns-then-max_qbits-gt-MAX_QBITS : goal.returns-then-max_qbits-gt-MAX_QBITS
returns-then-max_qbits-gt-MAX_QBITS c = max_bad _ _ _ c.if-max_qbits-eq0.false (λ h. omega arith)

pub returns-then-shape-max_qbits : goal.returns-then-shape-max_qbits
returns-then-shape-max_qbits c = max_bad _ _ _ c.if-max_qbits-eq0.false (λ h. omega arith)

pub returns : goal.returns
returns c = max_good _ _ _ (omega arith) (omega arith) (omega arith)
