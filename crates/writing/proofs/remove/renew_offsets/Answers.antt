-- `writing::remove::renew_offsets`: the invariant is that j blocks are told anew, and that `carry` is the carry before the block reached (specs/Shifted). Assumes nothing.
use Rattle.std.proofs.Common.{◌+◌, arith, mod-lt}
use Rattle.theory.specs.Shape.{blocks as blocks-of}
use Rattle.theory.specs.images.Sizes.{slots_blocks, slots_high}
use Rattle.writing.specs.Shifted.{renewing_on, renews_missed}
use Rattle.writing.proofs.remove.renew_offsets.Goals as goal

pub returns-in_default : goal.returns-in_default
returns-in_default c =
    renews_missed _ _ _ _ _ _ _ c.loop-j.j _ _ (slots_blocks _ c.requires.0.widths.low) c.loop-j.invariant.1 (rw c.blocks-blocks.ensures.0 at c.in_default.ensures)

pub loop-j-preserved : goal.loop-j-preserved
loop-j-preserved c =
    let e = c.blocks-blocks.ensures.0 in
    let d = rw e at c.in-Some.ensures in
    let r = mod-lt (c.args.a + c.loop-j.j + 1) {m = blocks-of c.args.shape.qbits} (omega (arith, e)) in
    (omega (arith, d.bound, slots_high _ c.requires.0.widths.high), rw (c.set_offset_byte.ensures, c.lesser.ensures, e) (renewing_on _ _ _ _ _ _ _ c.loop-j.j _ _ (slots_blocks _ c.requires.0.widths.low) c.loop-j.invariant.1 _ d (omega arith) r))
