-- `check_list::report::input_room`: the source's constant is the number of bytes that is enough. Assumes nothing.
use Rattle.std.proofs.Common.{refl}
use Rattle.theory.specs.Shape.{slots, blocks, bytes}
use Rattle.theory.specs.Report.{largest_qbits}
use Rattle.theory.specs.program.Enough.{enough}
use Rattle.check_list.proofs.report.input_room.Goals as goal

pub returns : goal.returns
unfolding enough bytes blocks slots largest_qbits
returns c = refl
