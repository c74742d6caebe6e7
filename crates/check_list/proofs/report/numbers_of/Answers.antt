-- `check_list::report::numbers_of`: len and the family are the numbers of 8 bytes, the others are a byte each. Assumes nothing.
use Rattle.std.proofs.Common.{sym, ◌∙◌}
use lib.ListN.{get_or}
use Rattle.theory.specs.number.Bytes.{le_part}
use Rattle.theory.specs.Report.{len_of, qbits_of, rbits_of, max_of, family_of}
use Rattle.layout.specs.Records.{empty_record, with_len}
use Rattle.check_list.proofs.report.numbers_of.Goals as goal

pub returns : goal.returns
unfolding len_of qbits_of rbits_of max_of family_of
returns c =
    let s = c.args.input.now in
    let len = c.read64-len.ensures ∙ sym (le_part 8 2 s) in
    let family = c.read64-family.ensures ∙ sym (le_part 8 13 s) in
    rw (c.with_len.ensures, c.empty.ensures)
    (λ i. with_len (empty_record (get_or s 10 0) (get_or s 11 0) (get_or s 12 0) (family i)) (len i))
