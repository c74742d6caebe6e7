-- `layout::planning::rbits_for`: the walk of `halvings`, with 2 ^ -k beside k. Assumes nothing.
use Rattle.std.proofs.Common.{◌≡◌, ◌-◌}
use Rattle.theory.specs.Planning.{half_pow, halvings, rbits_for}
use Rattle.layout.proofs.planning.rbits_for.Given as goal

abbrev pub invariant-loop-k : goal.invariant-loop-k
invariant-loop-k l = (l.h ≡ half_pow l.k) × (halvings (64 - l.k) l.k l.rate ≡ rbits_for l.rate)
