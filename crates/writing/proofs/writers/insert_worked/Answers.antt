-- `writing::writers::insert_worked`: the core's answer with the record afterwards (specs/Writing). Assumes nothing.
use Rattle.std.proofs.Common.{ℕ, Fits, w8, slice_index_or, rules, arith}
use Rattle.layout.specs.Refusals.{handed_on}
use Rattle.writing.specs.Writing.{InsertWorked, inserted_from, insert_worked}
use Rattle.writing.proofs.writers.insert_worked.Goals as goal
use Rattle.writing.proofs.writers.insert_worked.Goals.{After-insert_core}

worked : (c : After-insert_core) → ((i : ℕ) → Fits w8 (slice_index_or c.insert_core.new.buf i 0))
    → InsertWorked c.args.n c.args.hash c.args.max_count c.args.buf.now (inserted_from c.args.n c.insert_core.result) c.insert_core.new.buf
worked c after =
    let a = c.args in
    insert_worked a.n a.hash a.max_count a.buf.now _ _ c.requires (λ i. search rules) (λ i. omega (arith, after i)) c.insert_core.auto.buf (rw c.shape.ensures at c.insert_core.ensures)

pub returns-in_err-c : goal.returns-in_err-c
returns-in_err-c c = rw (handed_on _ c.from_residual.ensures.1) (rw c.in_err-c.was at (worked (goal.at.returns-in_err-c c).After-insert_core c.type_inv.buf))

pub returns-in-Enough : goal.returns-in-Enough
returns-in-Enough c = rw (c.in_ok-c.was, c.in-Enough.is) at (worked (goal.at.returns-in-Enough c).After-insert_core c.type_inv.buf)

pub returns-in-Added : goal.returns-in-Added
returns-in-Added c = rw c.with_len.ensures (rw (c.in_ok-c.was, c.in-Added.is) at (worked (goal.at.returns-in-Added c).After-insert_core c.type_inv.buf))
