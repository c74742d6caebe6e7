-- `writing::shift::inc_offsets`: what is left of the bumps, done to the buffer as it is, is the whole of them (theory: RaisedOffsets). Assumes nothing.
use Rattle.std.proofs.Common.{◌≡◌, ◌+◌, ◌-◌, sym, ◌∙◌, arith}
use Rattle.theory.specs.writing.RaisedOffsets.{bump_step, bump_none}
use Rattle.writing.proofs.shift.inc_offsets.Goals as goal

pub loop-b-preserved : goal.loop-b-preserved
loop-b-preserved c =
    let a = c.args in
    let d : a.a + a.k - (c.loop-b.b + 1) ≡ a.a + a.k - c.loop-b.b - 1 = omega arith in
    rw (d, c.set_offset_byte.ensures, c.counted_up.ensures.0, c.offset_byte-byte.ensures.0, c.blocks-blocks.ensures.0) (sym (bump_step _ _ c.loop-b.b (a.a + a.k - c.loop-b.b) _ (omega arith)) ∙ c.loop-b.invariant)

pub returns : goal.returns
returns c =
    let a = c.args in
    sym (bump_none _ _ c.loop-b.b (a.a + a.k - c.loop-b.b) _ (omega arith)) ∙ c.loop-b.invariant
