-- `layout::shape::Shape::buffer_len`: the formula, which no allowed shape takes out of range. Assumes nothing.
use Prim.Native.Nat.{◌+◌, ◌*◌}
use mathlib.Core.Path.{◌≡◌}
use native.Mathlib.Omega.{arith}
use Rattle.theory.specs.Shape.{bytes}
use Rattle.theory.specs.images.Sizes.{bytes_high}
use Rattle.layout.proofs.shape.Shape.buffer_len.Goals as goal
use Rattle.layout.proofs.shape.Shape.buffer_len.Goals.{After-block_len}

is : (c : After-block_len) → c.blocks-2.result * c.block_len.result + 8 ≡ bytes c.args.self.qbits c.args.self.rbits
unfolding bytes
is c = rw (c.blocks-2.ensures.0, c.block_len.ensures.0)

pub overflow_mul-result : goal.overflow_mul-result
overflow_mul-result c = omega (arith, is c, bytes_high _ _ c.requires)

pub overflow_add-result : goal.overflow_add-result
overflow_add-result c = omega (arith, is c, bytes_high _ _ c.requires)

pub returns : goal.returns
returns c = (is c, omega (arith, is c, bytes_high _ _ c.requires))
