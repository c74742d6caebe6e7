-- `filter::runs::calc_offset`: the invariant is that o is the carry before block j, round the end (specs/Offsets). Assumes nothing.
use Prim.Native.Nat.{◌+◌}
use mathlib.Core.Path.{◌≡◌}
use native.Mathlib.Omega.{arith}
use Rattle.theory.specs.images.Sizes.{slots_high}
use Rattle.theory.specs.reading.Walks.{tells_byte, none_tells, tells_end}
use Rattle.filter.specs.Runs.{slots_counted}
use Rattle.filter.specs.Offsets.{tells_next, tells_missed}
use Rattle.filter.proofs.runs.calc_offset.Goals as goal

pub returns-in_default : goal.returns-in_default
returns-in_default c =
    let e = c.blocks-blocks.ensures.0 in
    none_tells _ _ _ (slots_counted _ _ c.args.lent.now.whole.widths.low e) (omega arith) _ (rw (← e) at c.in_default.ensures)

pub loop-j-init : goal.loop-j-init
loop-j-init c =
    let e = c.blocks-blocks.ensures.0 in
    let k = rw (← e) at c.in-Some.ensures in
    (omega arith, tells_byte _ _ _ (slots_counted _ _ c.args.lent.now.whole.widths.low e) (omega arith) _ _ c.offset_byte-o.ensures.0 (omega (arith, c.offset_byte-o.ensures.0, k.1.tells k.0)))

pub returns-in_default-next_carry : goal.returns-in_default-next_carry
returns-in_default-next_carry c =
    tells_missed _ _ _ (slots_counted _ _ c.args.lent.now.whole.widths.low c.blocks-blocks.ensures.0) (omega arith) c.loop-j.j _ _ c.loop-j.invariant.1 c.in_default-next_carry.ensures

pub loop-j-preserved : goal.loop-j-preserved
loop-j-preserved c =
    let d = c.in-Some-next_carry.ensures in
    (omega (arith, d.bound, slots_high _ c.args.lent.now.whole.widths.high), tells_next _ _ _ (slots_counted _ _ c.args.lent.now.whole.widths.low c.blocks-blocks.ensures.0) (omega arith) c.loop-j.j _ _ c.loop-j.invariant.1 d)

pub returns : goal.returns
returns c =
    let e : c.loop-j.j ≡ c.args.b + c.blocks-blocks.result = omega arith in
    tells_end _ _ _ (slots_counted _ _ c.args.lent.now.whole.widths.low c.blocks-blocks.ensures.0) (omega arith) _ _ (rw e at c.loop-j.invariant.1) c.loop-j.invariant.0
