-- `check_list::report::put_lines`: of whichever list is held, the first k lines are written, and the place is that of the next fingerprint. Assumes nothing.
use Rattle.std.proofs.Common.{◌*◌, ◌≡◌, take}
use Rattle.theory.specs.Text.{lines}
use Rattle.layout.specs.Records.{SoundOf}
use Rattle.filter.specs.Places.{place_of}
use Rattle.check_list.specs.Written.{Written}
use Rattle.check_list.proofs.report.put_lines.Given as goal

abbrev pub invariant-loop-k : goal.invariant-loop-k
invariant-loop-k l = (h : SoundOf l.n l.buf) → (l.place ≡ place_of l.n.qbits l.n.rbits h.held l.k) × Written (lines (take l.k h.held)) l.initial.out l.out (17 * l.k)
