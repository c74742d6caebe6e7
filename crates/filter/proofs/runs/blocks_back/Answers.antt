-- `filter::runs::blocks_back`: no byte passed tells its carry. Assumes nothing.
use native.Mathlib.Omega.{arith}
use Rattle.theory.specs.Shape.{blocks}
use Rattle.theory.specs.number.Bytes.{le}
use Rattle.theory.specs.images.Block.{offset_at}
use Rattle.theory.specs.reading.Offsets.{back_all}
use Rattle.filter.proofs.runs.blocks_back.Goals as goal
use Prim.Native.Nat.{◌≤◌}

pub returns : goal.returns
returns c =
    let a = c.args in
    record {
      within = omega arith;
      tells = λ p. absurd (omega arith);
      none = λ z. back_all (blocks a.lent.now.shape.qbits) a.b (λ d. 255 ≤ offset_at a.lent.now.shape.rbits (le a.lent.now.buf.now) d) c.requires
          (λ j d f. rw c.blocks-blocks.ensures.0 at (c.loop-k.invariant j d (omega arith)));
    }
