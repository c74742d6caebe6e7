-- `bits::count::ones_between`: of the digits below j, those from i on are the lowest once they are shifted down. Assumes nothing.
use Rattle.std.proofs.Common.{◌≡◌, ◌+◌, ◌/◌, ◌%◌, ◌^◌, ap, ◌∙◌, mod-lt, arith, pow_pos}
use Rattle.theory.specs.number.Count.{rank, rank_all, rank_mod, rank_shift}
use Rattle.bits.proofs.count.ones_between.Goals as goal

pub returns : goal.returns
returns c =
    let a = c.args in
    let k : c.ones.result ≡ rank (a.x % 2 ^ a.j / 2 ^ a.i) 64 = c.ones.ensures.0 ∙ ap (λ z. rank (z / 2 ^ a.i) 64) c.low.ensures in
    (omega (arith, k, rank_shift (a.x % 2 ^ a.j) a.i 64, rank_all (a.x % 2 ^ a.j) a.j (a.i + 64) (mod-lt a.x (pow_pos a.j)) (omega arith), rank_mod a.x a.j a.i (omega arith), rank_mod a.x a.j a.j (omega arith)), c.ones.ensures.1)
