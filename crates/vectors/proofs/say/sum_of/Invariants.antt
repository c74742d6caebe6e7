-- `vectors::say::sum_of`: the sum stays below the modulus. Assumes nothing.
use Rattle.std.proofs.Common.{◌<◌}
use Rattle.vectors.proofs.say.sum_of.Given as goal

abbrev pub invariant-loop-b : goal.invariant-loop-b
invariant-loop-b l = l.sum < 4294967291
