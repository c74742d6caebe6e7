-- `bits::count::ones`: what `count_ones` counts is the rank of the whole word. Assumes nothing.
use Rattle.std.proofs.Common.{arith}
use lib.Count.{ones-le}
use Rattle.theory.specs.number.Count.{ones_rank}
use Rattle.bits.proofs.count.ones.Goals as goal

pub returns : goal.returns
returns c = let f = c.ranges.x.fits in omega (arith, c.from.ensures, ones_rank c.args.x 64 f, ones-le 64 c.args.x f)
