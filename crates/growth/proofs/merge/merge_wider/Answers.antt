-- `growth::merge::merge_wider`: 7, 12, or other's list taken into a copy of self. Assumes nothing.
use mathlib.Core.Path.{◌≡◌, ◌∙◌}
use native.Mathlib.Omega.{arith}
use lib.ListN.{length}
use Rattle.layout.specs.Refusals.{handed_on}
use Rattle.growth.specs.MergeWider.{wider_seven, wider_twelve, wider_built}
use Rattle.growth.proofs.merge.merge_wider.Goals as goal

pub returns-in_err-wider_due : goal.returns-in_err-wider_due
returns-in_err-wider_due c =
    let a = c.args in
    rw (handed_on _ c.from_residual.ensures.1) (wider_seven a.n a.buf.now a.m a.other.now c.requires.0 c.requires.1 a.keep _ _ c.new.ensures c.new-added.ensures a.dest.now _ c.in_err-wider_due.ensures)

pub returns-then-dest-buf : goal.returns-then-dest-buf
returns-then-dest-buf c =
    let a = c.args in
    wider_twelve a.n a.buf.now a.m a.other.now c.requires.0 c.requires.1 a.keep _ _ c.new.ensures c.new-added.ensures a.dest.now _ c.in_ok-wider_due.ensures c.if-dest-buf.true

pub returns : goal.returns
returns c =
    let a = c.args in
    let k = c.take_in-len in
    let y = c.copy in
    let same : length a.dest.now ≡ length a.buf.now = omega (arith, c.if-dest-buf.false) in
    rw c.with_len.ensures
    (wider_built a.n a.buf.now a.m a.other.now c.requires.0 c.requires.1 a.keep _ _ c.new.ensures c.new-added.ensures a.dest.now _ c.in_ok-wider_due.ensures same _ _ (λ i. omega (arith, c.type_inv.dest i)) (k.auto.dest ∙ y.auto.dest) (rw (y.ensures, c.max_count_of-most.ensures, c.shape.ensures) at k.ensures))
