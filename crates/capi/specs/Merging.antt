-- The answer of merge as a plain struct.
use Rattle.std.specs.Prelude.{ℕ, List}
use Rattle.layout.specs.declared.numbers.Numbers.{Numbers}
use Rattle.growth.specs.Merging.{Merges}
use Rattle.capi.specs.Shown.{Shown}
use Rattle.capi.specs.Growing.{rebuilt_of}
use Rattle.capi.specs.declared.planning.Changed.{Changed}

abbrev pub MergeOutcome : Numbers → List ℕ → Numbers → List ℕ → ℕ → List ℕ → Changed → List ℕ → Type 0
MergeOutcome n s m o keep d a t = Shown (λ answer. Merges n s m o keep d answer t) (rebuilt_of n) a
