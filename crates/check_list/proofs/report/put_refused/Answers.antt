-- `check_list::report::put_refused`: the line fits. Assumes nothing.
use Rattle.std.proofs.Common.{le_trans, arith}
use Rattle.theory.specs.Text.{ascii}
use Rattle.theory.specs.Report.{refused}
use Rattle.theory.specs.program.Numerals.{headline_short}
use Rattle.check_list.proofs.report.put_refused.Goals as goal

pub put_headline-requires : goal.put_headline-requires
put_headline-requires c = le_trans (headline_short _ c.from-2.result (omega arith) (omega arith)) c.requires

pub returns : goal.returns
unfolding refused ascii
returns c = rw (c.from-2.ensures, c.from.ensures) at c.put_headline.ensures
