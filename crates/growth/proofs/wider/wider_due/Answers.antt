-- `growth::wider::wider_due`: b has too few, all are added, or the count decides (specs/WiderDue). Assumes nothing.
use Prim.Native.Nat.{suc, ◌+◌, ◌-◌}
use mathlib.Core.Path.{◌≡◌}
use native.Mathlib.Omega.{arith}
use Rattle.theory.specs.Shape.{capacity}
use Rattle.growth.specs.WiderDue.{wider_few, wider_all, wider_room, wider_passed}
use Rattle.growth.proofs.wider.wider_due.Goals as goal
use Rattle.growth.proofs.wider.wider_due.Goals.{After-capacity}

-- the least number of added copies that passes capacity
least : (c : After-capacity) → c.args.a.len + (c.capacity.result - c.args.a.len + 1) ≡ suc (capacity c.args.a.lent.shape.qbits)
least c = omega (arith, c.capacity.ensures.0, c.requires)

pub returns-then-b-enough : goal.returns-then-b-enough
returns-then-b-enough c = wider_few c.args.a c.args.b c.args.keep _ (least (goal.at.returns-then-b-enough c).After-capacity) c.if-b-enough.true

pub returns-then-keep-ne0 : goal.returns-then-keep-ne0
returns-then-keep-ne0 c = wider_all c.args.a c.args.b c.args.keep _ (least (goal.at.returns-then-keep-ne0 c).After-capacity) c.requires c.if-b-enough.false c.if-keep-ne0.true

pub returns-then-count_added-enough : goal.returns-then-count_added-enough
returns-then-count_added-enough c =
    wider_room c.args.a c.args.b c.args.keep _ (least (goal.at.returns-then-count_added-enough c).After-capacity) _ c.if-keep-ne0.false c.count_added.ensures c.if-count_added-enough.true

pub returns : goal.returns
returns c =
    wider_passed c.args.a c.args.b c.args.keep _ (least (goal.at.returns c).After-capacity) _ c.if-keep-ne0.false c.count_added.ensures c.requires c.if-count_added-enough.false
