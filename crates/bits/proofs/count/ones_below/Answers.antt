-- `bits::count::ones_below`: the digits below i are those of the whole word that has no others. Assumes nothing.
use Rattle.std.proofs.Common.{◌≡◌, ◌%◌, ◌^◌, ap, ◌∙◌, mod-lt, arith, pow_pos}
use Rattle.theory.specs.number.Count.{rank, rank_all, rank_mod, rank_le}
use Rattle.bits.proofs.count.ones_below.Goals as goal

pub returns : goal.returns
returns c =
    let a = c.args in
    let k : c.ones.result ≡ rank a.x a.i =
    c.ones.ensures.0 ∙ ap (λ z. rank z 64) c.low.ensures
    ∙ rank_all (a.x % 2 ^ a.i) a.i 64 (mod-lt a.x (pow_pos a.i)) (omega arith) ∙ rank_mod a.x a.i a.i (omega arith) in
    (k, omega (arith, rank_le a.x a.i))
