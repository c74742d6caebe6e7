-- `check_list::text::put_line`: the invariant is that the first i of the 16 digits are written. Assumes nothing.
use Rattle.std.proofs.Common.{◌-◌, ◌*◌, ◌/◌, ◌^◌}
use Rattle.theory.specs.Text.{hex}
use Rattle.check_list.specs.Written.{Written}
use Rattle.check_list.proofs.text.put_line.Given as goal

abbrev pub invariant-loop-i : goal.invariant-loop-i
invariant-loop-i l = Written (hex l.i (l.f / 2 ^ (64 - 4 * l.i))) l.initial.out l.out l.i
