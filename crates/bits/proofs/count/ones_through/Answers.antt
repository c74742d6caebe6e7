-- `bits::count::ones_through`: shifted up, the digits up to i are the highest. Assumes nothing.
use Rattle.std.proofs.Common.{◌≡◌, ◌+◌, ◌-◌, ◌*◌, ◌^◌, ◌∙◌, arith}
use Rattle.theory.specs.number.Count.{rank, rank_mod, rank_up, rank_le}
use Rattle.bits.proofs.count.ones_through.Goals as goal

pub returns : goal.returns
returns c =
    let a = c.args in
    let e : 63 - a.i + (a.i + 1) ≡ 64 = omega arith in
    let k : c.ones.result ≡ rank a.x (a.i + 1) =
    c.ones.ensures.0 ∙ rank_mod (a.x * 2 ^ (63 - a.i)) 64 64 (omega arith) ∙ (rw e at (rank_up a.x (63 - a.i) (a.i + 1))) in
    (k, omega (arith, rank_le a.x (a.i + 1)))
