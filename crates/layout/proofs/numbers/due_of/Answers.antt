-- `layout::numbers::due_of`: numbers 2 to 5, lowest first. Assumes nothing.
use mathlib.Core.Path.{sym, ◌∙◌}
use Rattle.layout.specs.Refusals.{number_some, handed_on}
use native.Mathlib.Omega.{arith}
use Rattle.theory.specs.images.Sizes.{past_capacity, within_capacity}
use Rattle.theory.specs.refusals.ByNumber.{due_size, due_len, due_max, due_full, full_due_lem, full_none}
use Rattle.layout.proofs.numbers.due_of.Goals as goal

pub returns-then-size-buffer_len : goal.returns-then-size-buffer_len
returns-then-size-buffer_len c = due_size _ _ _ _ _ (λ e. c.if-size-buffer_len.true (e ∙ sym c.buffer_len.ensures.0))

pub returns-then-slots-len : goal.returns-then-slots-len
returns-then-slots-len c = due_len _ _ _ _ _ (omega (arith, c.buffer_len.ensures.0)) (omega arith)

pub returns-then-slots-len-2 : goal.returns-then-slots-len-2
returns-then-slots-len-2 c = due_full _ _ _ _ _ (omega arith) (omega arith) c.in_ok-max_due.ensures ∙ full_due_lem _ _ (past_capacity _ _ (omega arith) (omega arith)) (omega arith)

pub returns : goal.returns
returns c = due_full _ _ _ _ _ (omega arith) (omega arith) c.in_ok-max_due.ensures ∙ full_none _ _ (within_capacity _ _ (omega arith) (omega arith))

pub returns-in_err-max_due : goal.returns-in_err-max_due
returns-in_err-max_due c = rw (handed_on _ c.from_residual.ensures.1) (let z = c.in_err-max_due.ensures in due_max _ _ _ _ _ (omega arith) (omega arith) (omega (arith, z, number_some c.in_err-max_due.field-0.0)) ∙ z)
