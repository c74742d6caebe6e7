-- `growth::adding::count_added`: the invariant is that k fingerprints of b are passed, and count of them added (specs/Counting). Assumes nothing.
use Rattle.growth.specs.Counting.{Counting}
use Rattle.growth.proofs.adding.count_added.Given as goal

abbrev pub invariant-loop-k : goal.invariant-loop-k
invariant-loop-k l = Counting l.a l.b l.enough l.k l.count l.before l.place
