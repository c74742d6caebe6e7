-- `layout::numbers::number_due`: number 1, then 2 to 5. Assumes nothing.
use Rattle.std.proofs.Common.{sym, ◌∙◌, arith}
use Rattle.theory.specs.Shape.{Widths}
use Rattle.theory.specs.refusals.ByNumber.{due_one, due_rest, none_widths, widths_none, widths_due_lem}
use Rattle.layout.specs.Refusals.{number_some, handed_on}
use Rattle.layout.proofs.numbers.number_due.Goals as goal

pub returns-in_err-shape : goal.returns-in_err-shape
returns-in_err-shape c =
    let w : ¬ (Widths c.args.n.qbits c.args.n.rbits) = λ w. omega (arith, widths_none _ _ w, c.in_err-shape.ensures, number_some c.in_err-shape.field-0.0) in
    rw (handed_on _ c.from_residual.ensures.1) (due_one _ _ _ _ _ w ∙ sym (widths_due_lem _ _ w) ∙ c.in_err-shape.ensures)

pub due_of-requires : goal.due_of-requires
due_of-requires c = let z = c.in_ok-shape.ensures in rw (z.1, z.2) (none_widths _ _ z.0)

pub returns : goal.returns
returns c =
    let m = c.in_ok-shape.ensures in
    rw (due_rest _ _ _ _ _ (none_widths _ _ m.0)) (rw (m.1, m.2) at c.due_of.ensures)
