-- `writing::remove::renew_offsets`: the invariant is that j blocks are told anew, and that `carry` is the carry before the block reached (specs/Shifted). Assumes nothing.
use Rattle.std.specs.Prelude.{◌^◌, ◌≤◌}
use Rattle.theory.specs.Shape.{slots as slots-of, blocks as blocks-of}
use Rattle.theory.specs.number.Bytes.{le}
use Rattle.writing.specs.Shifted.{Renewing}
use Rattle.writing.proofs.remove.renew_offsets.Given as goal

abbrev pub invariant-loop-j : goal.invariant-loop-j
invariant-loop-j l = (l.carry ≤ 2 ^ 60) × Renewing l.shape.rbits (slots-of l.shape.qbits) (blocks-of l.shape.qbits) l.a l.k l.o (le l.initial.buf) l.j l.carry (le l.buf)
