-- `writing::shift::put_in`: what is left of the slide, done to the buffer as it is, is the whole slide of the buffer as it was (theory: Slide, PutIn). Assumes nothing.
use Rattle.std.proofs.Common.{ℕ, ◌≡◌, ◌+◌, ◌-◌, ◌%◌, ◌<◌, sym, ◌∙◌, arith}
use Rattle.theory.specs.Shape.{slots as slots-of}
use Rattle.theory.specs.number.Bytes.{le}
use Rattle.theory.specs.images.Block.{cell_at, put_cell}
use Rattle.theory.specs.writing.Slide.{slide_up}
use Rattle.theory.specs.writing.PutIn.{up_step, up_none, put_in}
use Rattle.theory.specs.images.Sizes.{slots_blocks}
use Rattle.writing.proofs.shift.put_in.Goals as goal

-- the last of the cells from a to before t
step : (r d w m a t x : ℕ) → a < t → slide_up r d w m a (t - 1 - a) (put_cell r d w x ((t - 1 + 1) % m) (cell_at r d w x ((t - 1) % m))) ≡ slide_up r d w m a (t - a) x
step r d w m a t x h =
    let i : t - 1 + 1 ≡ a + (t - a) = omega arith in
    let j : t - 1 - a ≡ t - a - 1 = omega arith in
    let k : t - 1 ≡ a + (t - a) - 1 = omega arith in
    rw (i, j, k) (sym (up_step r d w m a (t - a) x (omega arith)))

pub loop-t-preserved : goal.loop-t-preserved
loop-t-preserved c =
    rw (c.set_cell.ensures, c.get_cell-c.ensures.0, c.slots-slots.ensures.0) (step _ _ _ _ _ _ _ c.loop-t-test.true ∙ c.loop-t.invariant)

pub returns : goal.returns
returns c =
    let e = c.slots-slots.ensures.0 in
    let done : le c.loop-t.buf ≡ slide_up c.args.shape.rbits c.args.d c.args.w (slots-of c.args.shape.qbits) c.args.a (c.args.e - c.args.a) (le c.args.buf.now) = sym (up_none _ _ _ _ _ (c.loop-t.t - c.args.a) _ (omega arith)) ∙ c.loop-t.invariant in
    rw (c.set_cell-2.ensures, e, done) (put_in _ _ _ _ _ c.requires.1 (slots_blocks _ c.requires.0.widths.low) _ _ c.requires.3 c.requires.4 _ _ c.requires.6)
