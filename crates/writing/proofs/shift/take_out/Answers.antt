-- `writing::shift::take_out`: what is left of the slide, done to the buffer as it is, is the whole slide of the buffer as it was (theory: Slide, PutIn). Assumes nothing.
use Rattle.std.proofs.Common.{◌≡◌, ◌+◌, ◌-◌, sym, ◌∙◌, arith}
use Rattle.theory.specs.Shape.{slots as slots-of}
use Rattle.theory.specs.number.Bytes.{le}
use Rattle.theory.specs.writing.Slide.{slide_down}
use Rattle.theory.specs.writing.PutIn.{down_step, down_none, take_out}
use Rattle.theory.specs.images.Sizes.{slots_blocks}
use Rattle.writing.proofs.shift.take_out.Goals as goal

pub loop-t-preserved : goal.loop-t-preserved
loop-t-preserved c =
    let d : c.args.e - (c.loop-t.t + 1) ≡ c.args.e - c.loop-t.t - 1 = omega arith in
    rw (d, c.set_cell.ensures, c.get_cell-c.ensures.0, c.slots-slots.ensures.0) (sym (down_step _ _ _ _ c.loop-t.t (c.args.e - c.loop-t.t) _ (omega arith)) ∙ c.loop-t.invariant)

pub returns : goal.returns
returns c =
    let e = c.slots-slots.ensures.0 in
    let done : le c.loop-t.buf ≡ slide_down c.args.shape.rbits c.args.d c.args.w (slots-of c.args.shape.qbits) c.args.a (c.args.e - c.args.a) (le c.args.buf.now) = sym (down_none _ _ _ _ c.loop-t.t (c.args.e - c.loop-t.t) _ (omega arith)) ∙ c.loop-t.invariant in
    rw (c.set_cell-2.ensures, e, done) (take_out _ _ _ _ _ c.requires.1 (slots_blocks _ c.requires.0.widths.low) _ _ c.requires.3 c.requires.4 _)
