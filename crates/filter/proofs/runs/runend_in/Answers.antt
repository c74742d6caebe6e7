-- `filter::runs::runend_in`: select on the word shifted down by the digits that are skipped. Assumes nothing.
use native.Mathlib.Omega.{arith}
use Rattle.theory.specs.reading.Ring.{high_none}
use Rattle.filter.proofs.runs.runend_in.Goals as goal

pub returns-in_default : goal.returns-in_default
returns-in_default c =
    let a = c.args in
    omega (arith, high_none a.w a.skip c.ones.result c.ones.ensures.0 (omega arith) (omega arith), c.ones.ensures.0, c.in_default.ensures)
