-- `check_list::report::put_step`: at the place of a fingerprint the step is that fingerprint. Assumes nothing.
use Rattle.std.specs.Prelude.{unwrap_or}
use Rattle.std.proofs.Common.{sym, ap, ◌∙◌}
use Rattle.theory.specs.Text.{line}
use Rattle.filter.specs.declared.listing.Stepped.{Stepped}
use Rattle.filter.specs.Listing.{listed_step}
use Rattle.filter.specs.Places.{step_some}
use Rattle.theory.specs.program.Lines.{line_length}
use Rattle.check_list.proofs.Filled.{written_as, written_count}
use Rattle.check_list.proofs.report.put_step.Goals as goal

pub returns : goal.returns
returns c e l h k b p =
    let t = listed_step _ _ l e h _ _ c.step_from-stepped.ensures k p ∙ step_some _ _ l k b in
    let some = rw (ap (λ (z : Stepped). z.step) t) at c.in-Ok-Some.field-0-is in
    let w = c.put_line.ensures in
    (ap (λ (z : Stepped). z.place) t, written_as _ _ _ _ (written_count _ _ _ _ w 17 (w.many ∙ line_length _)) _ (ap (λ o. line (unwrap_or o 0)) (sym some)))
