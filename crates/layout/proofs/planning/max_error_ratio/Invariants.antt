-- `layout::planning::max_error_ratio`: k halvings of 1 are 2 ^ -k. Assumes nothing.
use Rattle.std.proofs.Common.{◌≡◌}
use Rattle.theory.specs.Planning.{half_pow}
use Rattle.layout.proofs.planning.max_error_ratio.Given as goal

abbrev pub invariant-loop : goal.invariant-loop
invariant-loop l = l.h ≡ half_pow l.counter
