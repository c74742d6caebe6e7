-- Every row of the table of examples holds. Assumes nothing.
use Rattle.std.specs.Prelude.{ℕ, ◌≡◌, replicate}
use Rattle.std.proofs.Math.Path.{refl}
use Rattle.std.proofs.Common.{sym, ap, ◌∙◌, arith}
use Rattle.std.proofs.Math.Decide.{dec_le, dec_lt, ℕ_discrete}
use Rattle.theory.specs.tools.Choose.{choose}
use Rattle.theory.specs.tools.Total.{total}
use Rattle.theory.specs.number.Bytes.{le, to_bytes}
use Rattle.theory.specs.number.Count.{rank}
use Rattle.theory.specs.number.Field.{field}
use Rattle.theory.specs.number.Packed.{packed}
use Rattle.theory.specs.Shape.{slots, capacity, blocks, bytes, Widths}
use Rattle.theory.specs.Holding.{Holding, Ascending, Least, Under, run, fewer}
use Rattle.theory.specs.Image.{image, blocks_of, block_of, views_of, cell, behind, start, carry, walk, occ, last, rest_at, many, run_at}
use Rattle.theory.specs.Planning.{width_from, needed_qbits}
use Rattle.theory.specs.Refusal.{or_else, widths_due, due_of, size_due, len_due, max_due, full_due}
use Rattle.theory.specs.Text.{ascii, digit, hex, decimal_in, decimal, headline, line, lines}
use Rattle.theory.specs.Report.{len_of, qbits_of, rbits_of, max_of, buffer_of, mark_due, largest_qbits, limit_due, header_due, number_due, refused, sound, answer, report_of}
use Rattle.theory.specs.refusals.Demands.{a_filter}
use Rattle.theory.specs.list.OneRun.{copies_holding, many_copies}
use Rattle.theory.specs.program.Files.{file_of}
use Rattle.theory.proofs.program.Files.{list_file}
use Rattle.theory.specs.Examples.{AllHold, holds, table, sound_with, held, buffer, file, filled, offset_bytes}

-- ---- the rows that need more than computation
held_image : image 6 8 held ≡ filled 89 buffer
unfolding held buffer filled choose dec_le dec_lt ℕ_discrete slots blocks image blocks_of block_of views_of cell behind start carry walk occ last rest_at many run_at run to_bytes packed
held_image = refl

holding : Holding 64 256 held
unfolding held Ascending Least Under
holding = record { ascending = omega arith; under = omega arith; fewer = omega arith }

widths : Widths 6 8
widths = record { low = omega arith; high = omega arith; some = omega arith; sum = omega arith }

-- of any family
file_printed : (family : ℕ) → report_of (file_of 3 6 8 0 family (filled 89 buffer)) ≡ sound 3 held
unfolding held slots capacity largest_qbits
file_printed family =
    ap (λ b. report_of (file_of 3 6 8 0 family b)) (sym held_image)
    ∙ list_file 6 8 family held (omega arith) widths holding (omega arith)

at_capacity : holds (sound_with 6 8 (replicate 61 0x07))
unfolding holds slots capacity
at_capacity = a_filter 6 8 (replicate 61 0x07) widths (copies_holding 64 256 0x07 61 (omega arith) (omega arith)) (omega arith)

-- the proof of a row, and of those behind it
infixr 4 ◌and◌
◌and◌ : {A B : Type 0} → A → B → A × B
a and b = (a, b)

-- every row holds
pub examples : AllHold table
unfolding AllHold holds table held buffer file filled offset_bytes fewer slots capacity blocks bytes needed_qbits width_from rank field total choose dec_le dec_lt ℕ_discrete image blocks_of block_of views_of to_bytes report_of answer number_due header_due mark_due limit_due largest_qbits len_of qbits_of rbits_of max_of buffer_of or_else widths_due due_of size_due len_due max_due full_due le refused sound headline line lines hex decimal decimal_in digit ascii
examples =
    refl
    and refl
    and refl
    and refl
    and refl
    and refl
    and omega arith
    and (omega arith, refl, refl)
    and (omega arith, refl, refl)
    and (omega arith, refl, refl)
    and omega arith
    and omega arith
    and refl
    and refl
    and refl
    and held_image
    and (unfold file_of in file_printed 0)
    and (unfold file_of in file_printed 0x8000000000000007)
    and (unfold cell behind start carry walk occ last rest_at many run_at run packed in refl)
    and rw (many_copies 512 256 0x07 400) (unfold carry walk in refl)
    and rw (many_copies 512 256 0x07 399) (unfold carry walk in refl)
    and at_capacity
    and refl
    and refl
    and refl
    and refl
    and refl
    and refl
    and refl
    and refl
    and refl
    and refl
    and refl
    and refl
    and refl
    and refl
    and refl
    and refl
    and tt
