-- The text, by what is due: 13, 1 and 14 are refused first. That the text is then that of a checked call is in proofs/program/TextByDue. Assumes nothing.
use Rattle.std.specs.Prelude.{ℕ, zero, suc, ◌-◌, ◌<◌, ◌≡◌, List, length, take, drop}
use Rattle.std.proofs.Math.Path.{refl, sym, ap}
use Rattle.std.proofs.Common.{◌∙◌, arith, length-drop, take_all}
use Rattle.std.proofs.Math.Pow.{pow_mono}
use Rattle.theory.specs.Shape.{slots}
use Rattle.theory.specs.Refusal.{due}
use Rattle.theory.specs.Sound.{Sound}
use Rattle.theory.specs.Report.{len_of, qbits_of, rbits_of, max_of, header_bytes, buffer_of, largest_qbits, header_due, number_due, refused, checked, answer, report_of}
use Rattle.theory.specs.refusals.ByNumber.{else_none, else_some, due_rest, none_due}
use Rattle.theory.specs.refusals.SoundDecided.{sound_dec}
use Rattle.theory.specs.refusals.ProgramAsks.{none_header}

-- the part of the input behind its header, as it is lent
pub part : (s : List ℕ) → take (length s - header_bytes) (drop header_bytes s) ≡ buffer_of s
unfolding buffer_of
part s = take_all (length s - header_bytes) (drop header_bytes s) (omega (arith, length-drop header_bytes s))

pub answer_some : (k : ℕ) (text : List ℕ) → 0 < k → answer k text ≡ refused k
unfolding answer
answer_some zero text h = absurd (omega arith)
answer_some (suc k) text h = refl

pub answer_none : (k : ℕ) (text : List ℕ) → k ≡ 0 → answer k text ≡ text
unfolding answer
answer_none zero text h = refl
answer_none (suc k) text h = absurd (omega arith)

module _ (q r len mx : ℕ) (b : List ℕ) where
  pub checked_damaged : (d : Dec (Sound q r len mx b)) → ¬ (Sound q r len mx b) → checked d ≡ refused 6
  unfolding checked
  checked_damaged (yes g) h = absurd (h g)
  checked_damaged (no g) h = refl

module _ (s : List ℕ) where
  -- a number from 1 to 5, 13 or 14 is due
  pub report_number : 0 < number_due s → report_of s ≡ refused (number_due s)
  unfolding report_of
  report_number h = answer_some (number_due s) _ h

  -- 13, 1 or 14 is due
  pub report_header : 0 < header_due s → report_of s ≡ refused (header_due s)
  unfolding number_due
  report_header h =
      let e : number_due s ≡ header_due s = else_some (header_due s) _ h in
      report_number (omega (arith, e)) ∙ ap refused e

  module _ (none : header_due s ≡ 0) where
    pub asked : report_of s ≡ answer (due (qbits_of s) (rbits_of s) (len_of s) (max_of s) (length (buffer_of s))) (checked (sound_dec (qbits_of s) (rbits_of s) (len_of s) (max_of s) (buffer_of s)))
    unfolding report_of number_due
    asked =
        let e : number_due s ≡ due (qbits_of s) (rbits_of s) (len_of s) (max_of s) (length (buffer_of s)) = else_none (header_due s) _ none ∙ sym (due_rest _ _ _ _ _ (none_header s none).1) in
        rw e

    -- a line for each slot is enough
    pub report_few : Sound (qbits_of s) (rbits_of s) (len_of s) (max_of s) (buffer_of s) → len_of s < slots largest_qbits
    unfolding slots
    report_few h =
        let w = (none_header s none).2 in
        omega (arith, (none_due _ _ _ _ _ h.none).fewer, pow_mono w)
