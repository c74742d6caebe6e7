-- `check_list::report::header_due`: 13, then 1, then 14. What is named on the function would find a right exit in front of the second: the edit limit_for_widths puts a wrong one there. Assumes nothing.
use Rattle.std.proofs.Common.{◌∙◌, arith}
use Rattle.theory.specs.Report.{largest_qbits}
use Rattle.theory.specs.refusals.ProgramAsks.{none_mark, limit_due_lem, limit_none, header_mark, header_widths, header_limit}
use Rattle.layout.specs.Refusals.{number_some, handed_on}
use Rattle.check_list.proofs.report.header_due.Goals as goal

pub returns-in_err-mark_due : goal.returns-in_err-mark_due
returns-in_err-mark_due c =
    let e = c.in_err-mark_due.ensures in
    rw (handed_on _ c.from_residual.ensures.1) (header_mark _ (omega (arith, e, number_some c.in_err-mark_due.field-0.0)) ∙ e)

pub numbers_of-n-requires : goal.numbers_of-n-requires
numbers_of-n-requires c = none_mark _ c.in_ok-mark_due.ensures

pub returns-in_err-shape : goal.returns-in_err-shape
returns-in_err-shape c =
    let e = rw c.numbers_of-n.ensures at c.in_err-shape.ensures in
    rw (handed_on _ c.from_residual-in_err-shape.ensures.1) (header_widths _ c.in_ok-mark_due.ensures (omega (arith, e, number_some c.in_err-shape.field-0.0)) ∙ e)

pub returns-then-shape-gt-MAX_QBITS : goal.returns-then-shape-gt-MAX_QBITS
unfolding largest_qbits
returns-then-shape-gt-MAX_QBITS c =
    let m = rw c.numbers_of-n.ensures at c.in_ok-shape.ensures in
    header_limit _ c.in_ok-mark_due.ensures m.0 ∙ limit_due_lem _ (omega (arith, m.1))

pub returns : goal.returns
unfolding largest_qbits
returns c =
    let m = rw c.numbers_of-n.ensures at c.in_ok-shape.ensures in
    header_limit _ c.in_ok-mark_due.ensures m.0 ∙ limit_none _ (omega (arith, m.1))
