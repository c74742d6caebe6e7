-- `bits::select::lowest_from`: the lowest one of the word shifted down, if there is one. Assumes nothing.
use Rattle.std.proofs.Common.{◌/◌, ◌^◌, div-le_self, arith}
use lib.Count.{count_trailing_zeros}
use Rattle.theory.specs.number.From.{from_none, from_some}
use Rattle.theory.specs.number.Lowest.{Lowest, lowest}
use Rattle.bits.proofs.select.lowest_from.Goals as goal
use Rattle.bits.proofs.select.lowest_from.Goals.{Else-high-eq0}

-- the lowest one of the word shifted down
found : (c : Else-high-eq0) → Lowest 64 (c.args.x / 2 ^ c.args.i) (count_trailing_zeros 64 (c.args.x / 2 ^ c.args.i))
found c = lowest 64 (c.args.x / 2 ^ c.args.i) (omega arith) (omega (arith, div-le_self c.args.x (2 ^ c.args.i)))

pub returns-then-high-eq0 : goal.returns-then-high-eq0
returns-then-high-eq0 c = λ p l _. from_none _ _ c.if-high-eq0.true p l

pub overflow_cast-result : goal.overflow_cast-result
overflow_cast-result c = omega (arith, (found c).within)

pub overflow_add-result : goal.overflow_add-result
overflow_add-result c = omega (arith, (found c).within)

pub returns : goal.returns
returns c =
    let p = from_some c.args.x c.args.i _ (omega arith) (found c) in
    (omega arith, p.0, p.1, p.2)
