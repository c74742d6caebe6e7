-- `growth::merge::merge_sound`: by the families and the widths. Assumes nothing.
use native.Mathlib.Omega.{arith}
use Rattle.layout.specs.Judging.{clear_of}
use Rattle.growth.specs.Merging.{sound_narrower, sound_equal, sound_wider, pair_differ, pair_same}
use Rattle.growth.proofs.merge.merge_sound.Goals as goal

pub overflow_add-width : goal.overflow_add-width
overflow_add-width c =
    let n = c.args.n in
    omega (arith, (clear_of n c.args.buf.now c.requires.0).widths.sum)

pub overflow_add-other_width : goal.overflow_add-other_width
overflow_add-other_width c =
    let m = c.args.m in
    omega (arith, (clear_of m c.args.other.now c.requires.1).widths.sum)

pub returns-then-other_family-family : goal.returns-then-other_family-family
returns-then-other_family-family c =
    let a = c.args in
    pair_differ a.n a.buf.now a.m a.other.now a.keep a.dest.now (λ e. omega (arith, e))

pub returns-then-other_width-width : goal.returns-then-other_width-width
returns-then-other_width-width c =
    let a = c.args in
    pair_same a.n a.buf.now a.m a.other.now a.keep a.dest.now _ _ (omega arith)
    (sound_narrower a.n a.buf.now a.m a.other.now a.keep a.dest.now c.if-other_width-width.true)

pub returns-then-other_width-width-2 : goal.returns-then-other_width-width-2
returns-then-other_width-width-2 c =
    let a = c.args in
    pair_same a.n a.buf.now a.m a.other.now a.keep a.dest.now _ _ (omega arith)
    (sound_equal a.n a.buf.now a.m a.other.now a.keep a.dest.now _ _ c.if-other_width-width-2.true c.merge_sorted.ensures)

pub returns : goal.returns
returns c =
    let a = c.args in
    pair_same a.n a.buf.now a.m a.other.now a.keep a.dest.now _ _ (omega arith)
    (sound_wider a.n a.buf.now a.m a.other.now a.keep a.dest.now _ _ (omega (arith, c.if-other_width-width-2.false, c.if-other_width-width.false)) c.merge_wider.ensures)
