-- `layout::slot::block_start`: the block lies in the buffer, so its place is in range. Assumes nothing.
use native.Mathlib.Omega.{arith}
use Rattle.theory.specs.images.Sizes.{bytes_high, block_in}
use Rattle.layout.proofs.slot.block_start.Goals as goal

pub overflow_mul-result : goal.overflow_mul-result
overflow_mul-result c =
    let a = c.args in
    let e = c.block_len.ensures.0 in
    rw e (omega (arith, bytes_high a.shape.qbits a.shape.rbits c.requires.0, block_in a.shape.qbits a.shape.rbits a.b c.requires.1))
