-- `layout::check::check`: numbers 1 to 5 first; then two rounds over the blocks, whose answer decides. Assumes nothing.
use Prim.Native.Nat.{◌+◌, ◌*◌}
use mathlib.Core.Path.{◌≡◌}
use native.Mathlib.Omega.{arith}
use Rattle.theory.specs.Shape.{blocks as blocks-of}
use Rattle.layout.specs.Judging.{judged}
use Rattle.layout.proofs.check.check.Goals as goal
use Rattle.layout.proofs.check.check.Goals.{After-blocks-2}

-- both rounds
two : (c : After-blocks-2) → 2 * c.blocks-2.result ≡ blocks-of c.of-lent.result.shape.qbits + blocks-of c.of-lent.result.shape.qbits
two c = omega (arith, c.blocks-2.ensures.0)

pub returns : goal.returns
returns c =
    let a = c.args in
    let e = c.of-lent.ensures in
    judged a.n a.buf.now (λ i. omega (arith, c.shared_slice_known-1.given i)) c.in_ok-number_due.ensures _ _ _
    (rw e.1 at (two (goal.at.returns c).After-blocks-2)) c.begin.ensures.0 (rw (e.0, e.1) at c.go_on-c.ensures.0) c.answer.result (rw e.1 at c.answer.ensures)
