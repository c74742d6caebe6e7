-- `vectors::planning::rate_of`: a pattern that passes the test is a number's. Assumes nothing.
use Rattle.std.proofs.Common.{arith}
use Rattle.theory.specs.number.Floats.{at_most_infinity}
use Rattle.vectors.proofs.planning.rate_of.Goals as goal

pub float_from_bits-result : goal.float_from_bits-result
float_from_bits-result c = at_most_infinity _ (omega arith)
