-- The text, by what is due: where 13, 1 and 14 are not due, it is that of a checked call. Assumes nothing.
use Rattle.std.specs.Prelude.{ℕ, ◌≡◌, List, length}
use Rattle.std.proofs.Math.Path.{sym, ap}
use Rattle.std.proofs.Common.{◌∙◌}
use Rattle.theory.specs.Sound.{Sound, Checked}
use Rattle.theory.specs.Report.{len_of, qbits_of, rbits_of, max_of, buffer_of, header_due, refused, sound, checked, report_of}
use Rattle.theory.proofs.images.ImageViews.{image_tells}
use Rattle.theory.specs.refusals.ByNumber.{none_due}
use Rattle.theory.specs.program.TextByDue.{answer_some, answer_none, checked_damaged, asked}

module _ (q r len mx : ℕ) (b : List ℕ) where
  -- a sound buffer holds one list
  pub same_held : (h h' : Sound q r len mx b) → h.held ≡ h'.held
  same_held h h' =
      image_tells q r (none_due q r len mx (length b) h.none).widths.low h.held h'.held h.holds.holding h'.holds.holding (sym h.holds.bytes ∙ h'.holds.bytes)

  checked_sound : (d : Dec (Sound q r len mx b)) (h : Sound q r len mx b) → checked d ≡ sound len h.held
  unfolding checked
  checked_sound (yes g) h = ap (sound len) (same_held g h)
  checked_sound (no g) h = absurd (g h)

module _ (s : List ℕ) where
  module _ (none : header_due s ≡ 0) where
    -- none of them is due: then the buffer is checked
    pub report_checked : Checked (qbits_of s) (rbits_of s) (len_of s) (max_of s) (buffer_of s) (λ k. report_of s ≡ refused k) (λ l. report_of s ≡ sound (len_of s) l)
    report_checked = record {
      early = λ h. asked s none ∙ answer_some _ _ h;
      damaged = λ e h. asked s none ∙ answer_none _ _ e ∙ checked_damaged _ _ _ _ _ _ h;
      sound = λ e l h. asked s none ∙ answer_none _ _ e ∙ checked_sound _ _ _ _ _ _ (record { none = e; held = l; holds = h });
    }
