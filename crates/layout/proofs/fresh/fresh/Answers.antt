-- `layout::fresh::fresh`: numbers 1, 4 and 12, then zeros, which are the image of the empty list. Assumes nothing.
use mathlib.Core.Path.{◌≡◌, refl, sym, ap, ◌∙◌}
use native.Mathlib.Omega.{arith}
use lib.ListN.{replicate}
use Rattle.theory.specs.Shape.{Widths, bytes}
use Rattle.theory.specs.Refusal.{max_due}
use Rattle.theory.specs.refusals.ByNumber.{widths_none, widths_due_lem, none_widths, max_four}
use Rattle.theory.specs.refusals.PlanRefused.{fresh_one, fresh_four, fresh_twelve, fresh_none}
use Rattle.theory.specs.images.EmptyImage.{image_empty}
use Rattle.layout.specs.Shapes.{ShapedAs}
use Rattle.std.specs.Prelude.{◌<◌, Ok}
use Rattle.layout.specs.Refusals.{number_some, handed_on}
use Rattle.layout.proofs.fresh.fresh.Goals as goal
use Rattle.layout.proofs.fresh.fresh.Goals.{After-buffer_len, In_ok-max_due, In_ok-shape}

-- the shape that was made has the widths asked, and they are allowed
made : (c : In_ok-shape) → ShapedAs c.args.qbits c.args.rbits (Ok c.in_ok-shape.shape)
made c = c.in_ok-shape.ensures

widths : (c : In_ok-shape) → Widths c.in_ok-shape.shape.qbits c.in_ok-shape.shape.rbits
widths c = rw ((made c).1, (made c).2) (none_widths _ _ (made c).0)

max_none : (c : In_ok-max_due) → max_due c.args.qbits c.args.rbits c.args.max_qbits ≡ 0
max_none c =
    let m = made (goal.at.In_ok-max_due c).In_ok-shape in
    rw (m.1, m.2) at c.in_ok-max_due.ensures

room : (c : After-buffer_len) → c.buffer_len.result ≡ bytes c.args.qbits c.args.rbits
room c =
    let m : ShapedAs c.args.qbits c.args.rbits (Ok c.in_ok-shape.shape) = c.in_ok-shape.ensures in
    rw (m.1, m.2) at c.buffer_len.ensures.0

pub returns-in_err-shape : goal.returns-in_err-shape
returns-in_err-shape c =
    let w : ¬ (Widths c.args.qbits c.args.rbits) = λ w. omega (arith, widths_none _ _ w, c.in_err-shape.ensures, number_some c.in_err-shape.field-0.0) in
    rw (handed_on _ c.from_residual.ensures.1) (fresh_one _ _ _ _ w ∙ sym (widths_due_lem _ _ w) ∙ c.in_err-shape.ensures, refl)

pub max_due-requires : goal.max_due-requires
max_due-requires c = widths (goal.at.max_due-requires c).In_ok-shape

pub returns-in_err-max_due : goal.returns-in_err-max_due
returns-in_err-max_due c =
    let m = made (goal.at.returns-in_err-max_due c).In_ok-shape in
    let d = rw (m.1, m.2) at c.in_err-max_due.ensures in
    let h : 0 < max_due c.args.qbits c.args.rbits c.args.max_qbits = omega (arith, d, number_some c.in_err-max_due.field-0.0) in
    rw (handed_on _ c.from_residual-in_err-max_due.ensures.1) (fresh_four _ _ _ _ (none_widths _ _ m.0) h ∙ sym (max_four _ _ _ h) ∙ d, refl)

pub buffer_len-requires : goal.buffer_len-requires
buffer_len-requires c = widths (goal.at.buffer_len-requires c).In_ok-shape

pub returns-then-buf-buffer_len : goal.returns-then-buf-buffer_len
returns-then-buf-buffer_len c =
    let m = made (goal.at.returns-then-buf-buffer_len c).In_ok-shape in
    (fresh_twelve _ _ _ _ (none_widths _ _ m.0) (max_none (goal.at.returns-then-buf-buffer_len c).In_ok-max_due) (λ e. c.if-buf-buffer_len.true (e ∙ sym (room (goal.at.returns-then-buf-buffer_len c).After-buffer_len))), refl)

pub returns : goal.returns
returns c =
    let m = made (goal.at.returns c).In_ok-shape in
    let size = c.if-buf-buffer_len.false ∙ room (goal.at.returns c).After-buffer_len in (
      fresh_none _ _ _ _ (none_widths _ _ m.0) (max_none (goal.at.returns c).In_ok-max_due) size,
      c.empty.ensures,
      c.clear.ensures ∙ ap (λ n. replicate n 0) size ∙ sym (image_empty _ _),
    )
