-- `growth::adding::unmet`: the invariant is that i fingerprints are passed, none of them cut to f (specs/Counting). Assumes nothing.
use Rattle.growth.specs.Counting.{Passing}
use Rattle.growth.proofs.adding.unmet.Given as goal

abbrev pub invariant-loop-i : goal.invariant-loop-i
invariant-loop-i l = Passing l.b l.shape l.k l.f l.i l.place
