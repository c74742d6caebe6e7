-- `writing::writers::remove_worked`: the core's answer with the record afterwards (specs/Writing). Assumes nothing.
use Rattle.std.proofs.Common.{ℕ, Fits, w8, slice_index_or, rules, arith}
use Rattle.layout.specs.Refusals.{handed_on}
use Rattle.writing.specs.Writing.{RemoveWorked, removed_from, remove_worked}
use Rattle.writing.proofs.writers.remove_worked.Goals as goal
use Rattle.writing.proofs.writers.remove_worked.Goals.{After-remove_core}

worked : (c : After-remove_core) → ((i : ℕ) → Fits w8 (slice_index_or c.remove_core.new.buf i 0)) → RemoveWorked c.args.n c.args.hash c.args.buf.now (removed_from c.args.n c.remove_core.result) c.remove_core.new.buf
worked c after =
    let a = c.args in
    remove_worked a.n a.hash a.buf.now _ _ c.requires (λ i. search rules) (λ i. omega (arith, after i)) c.remove_core.auto.buf (rw c.shape.ensures at c.remove_core.ensures)

pub returns-in_err-remove_core : goal.returns-in_err-remove_core
returns-in_err-remove_core c =
    rw (handed_on _ c.from_residual.ensures.1) (rw c.in_err-remove_core.was at (worked (goal.at.returns-in_err-remove_core c).After-remove_core c.type_inv.buf))

pub returns-then-not-branch : goal.returns-then-not-branch
returns-then-not-branch c = rw (c.in_ok-remove_core.was, c.if-not-branch.true) at (worked (goal.at.returns-then-not-branch c).After-remove_core c.type_inv.buf)

pub returns : goal.returns
returns c = rw (c.with_len.ensures, c.over.ensures) (rw (c.in_ok-remove_core.was, c.if-not-branch.false) at (worked (goal.at.returns c).After-remove_core c.type_inv.buf))
