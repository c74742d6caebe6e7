-- `growth::merge::copy`: the first i bytes are the buffer's. Assumes nothing.
use mathlib.Core.Path.{◌≡◌}
use lib.ListN.{length, take}
use Rattle.growth.proofs.merge.copy.Given as goal

abbrev pub invariant-loop-i : goal.invariant-loop-i
invariant-loop-i l = (length l.dest ≡ length l.buf) × (take l.i l.dest ≡ take l.i l.buf)
