-- `check_list::report::report`: 13, 1 and 14 first; then what a listing's beginning answers decides. Assumes nothing.
use Rattle.std.proofs.Common.{sym, ap, ◌∙◌, arith}
use Rattle.theory.specs.Shape.{slots}
use Rattle.theory.specs.Report.{largest_qbits, refused}
use Rattle.theory.specs.refusals.ProgramAsks.{none_header}
use Rattle.theory.specs.program.TextByDue.{part, report_header}
use Rattle.layout.specs.Refusals.{number_some}
use Rattle.check_list.specs.Beginning.{text_refused, text_sound, text_few, begun_ready}
use Rattle.check_list.proofs.Filled.{written_as}
use Rattle.check_list.proofs.report.report.Goals as goal

pub returns-in-Err : goal.returns-in-Err
returns-in-Err c =
    let e = c.in-Err.ensures in
    written_as _ _ _ _ c.put_refused.ensures _ (ap refused (sym e) ∙ sym (report_header _ (omega (arith, e, number_some c.in-Err.refusal))))

pub numbers_of-n-requires : goal.numbers_of-n-requires
numbers_of-n-requires c = (none_header _ c.in_default.ensures).0

pub slice_bounds-buf-count : goal.slice_bounds-buf-count
slice_bounds-buf-count c = omega (arith, (none_header _ c.in_default.ensures).0)

pub slice_bounds-buf-start : goal.slice_bounds-buf-start
slice_bounds-buf-start c = omega (arith, (none_header _ c.in_default.ensures).0)

pub returns-in-Err-begin : goal.returns-in-Err-begin
returns-in-Err-begin c =
    let s = c.args.input.now in
    written_as _ _ _ _ c.put_refused-in-Err-begin.ensures _ (sym (text_refused s _ _ c.numbers_of-n.ensures (part s) c.in_default.ensures _ c.in-Err-begin.ensures))

pub returns-in-Ok : goal.returns-in-Ok
returns-in-Ok c =
    let s = c.args.input.now in
    let h = (begun_ready c.numbers_of-n.result _ _ c.in-Ok.ensures).sound in
    written_as _ _ _ _ (c.put_sound.ensures h) _ (sym (text_sound s _ _ c.numbers_of-n.ensures (part s) c.in_default.ensures h))

pub put_sound-requires : goal.put_sound-requires
unfolding largest_qbits slots
put_sound-requires c =
    let s = c.args.input.now in
    let r = begun_ready c.numbers_of-n.result _ _ c.in-Ok.ensures in
    (r, omega (arith, text_few s _ _ c.numbers_of-n.ensures (part s) c.in_default.ensures r.sound))
