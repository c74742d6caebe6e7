-- `growth::union::union_len`: both counts are below slots, and their sum is the length (specs/Union). Assumes nothing.
use mathlib.Core.Path.{refl}
use Rattle.growth.specs.Union.{united}
use Rattle.growth.proofs.union.union_len.Goals as goal

pub returns : goal.returns
returns c = united _ c.args.a c.args.b _ _ refl refl c.requires.0 c.count_added.ensures c.count_added-2.ensures
