-- `growth::merge::joined_qbits`: the walk of `width_from`. Assumes nothing.
use Prim.Native.Nat.{suc, ◌-◌, ◌+◌}
use mathlib.Core.Path.{◌≡◌}
use Rattle.theory.specs.Planning.{width_from}
use Rattle.growth.proofs.merge.joined_qbits.Given as goal

abbrev pub invariant-loop-qbits : goal.invariant-loop-qbits
invariant-loop-qbits l = width_from (l.last + 1 - l.qbits) l.qbits l.wanted ≡ width_from (suc (l.last - l.first)) l.first l.wanted
