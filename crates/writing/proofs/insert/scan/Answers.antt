-- `writing::insert::scan`: the invariant is that k places are passed, none larger, and how many of them are equal (specs/CopyIn). Assumes nothing.
use Rattle.std.proofs.Common.{◌≡◌, ◌+◌, inl, inr, sym, ◌∙◌, arith}
use Rattle.theory.specs.Shape.{slots as slots-of}
use Rattle.layout.specs.Whole.{views_in}
use Rattle.writing.specs.CopyIn.{Scanning, scanned_inside, scanned_end, scanned_round, scanning_on}
use Rattle.writing.proofs.insert.scan.Goals as goal
use Rattle.writing.proofs.insert.scan.Goals.{After-is_runend}

-- the place of the turn is passed, and the run goes on
on : (c : After-is_runend) → (c.is_runend.result ≡ 1 → ⊥)
    → Scanning (slots-of c.args.lent.now.shape.qbits) (views_in c.args.lent.now.shape c.args.lent.now.buf.now) c.args.at c.args.rem (c.loop-s.k + 1) (c.loop-s.copies + c.equal-copies.result)
on c going =
    let e = c.slots-slots.ensures.0 in
    let q = c.equal-copies.ensures in
    scanning_on _ _ _ _ c.loop-s.k _ _ c.loop-s.invariant.1 (rw e at c.get_remainder-here.ensures.0) c.loop-s.invariant.0 _ c.if-rem-here.false q.0 q.1 q.2 (λ y. going (rw e at c.is_runend.ensures.0 ∙ y))

pub loop-s-preserved : goal.loop-s-preserved
loop-s-preserved c = (omega (arith, c.slots-slots.ensures.0), on (goal.at.loop-s-preserved c).After-is_runend c.if-is_runend-eq1.false)

pub returns-then-rem-here : goal.returns-then-rem-here
returns-then-rem-here c =
    scanned_inside _ _ _ _ c.loop-s.k _ _ c.loop-s.invariant.1 (rw c.slots-slots.ensures.0 at c.get_remainder-here.ensures.0) c.loop-s.invariant.0 c.if-rem-here.true

pub returns-then-is_runend-eq1 : goal.returns-then-is_runend-eq1
returns-then-is_runend-eq1 c =
    let e = c.slots-slots.ensures.0 in
    let q = c.equal-copies.ensures in
    elim c.then-is_runend-eq1.either [
      | inl y ↦ scanned_end _ _ _ _ c.loop-s.k _ _ c.loop-s.invariant.1 (rw e at c.get_remainder-here.ensures.0) c.loop-s.invariant.0 _ c.if-rem-here.false q.0 q.1 q.2 (sym (rw e at c.is_runend.ensures.0) ∙ y)
      | inr y ↦ scanned_round _ _ _ _ (c.loop-s.k + 1) _ (y.1 ∙ e) (omega arith) (on (goal.at.returns-then-is_runend-eq1 c).After-is_runend y.0)
    ]
