-- The text by what a listing's beginning answers, which is checked as the text is. Assumes nothing.
use Rattle.std.specs.Prelude.{ℕ, ◌<◌, ◌≡◌, ◌⊎◌, List, Ok, Err}
use Rattle.std.proofs.Common.{ap, ◌∙◌, inl, inr, arith, eq-zero-or-pos}
use Rattle.theory.specs.Shape.{slots}
use Rattle.theory.specs.Sound.{Checked}
use Rattle.theory.specs.Report.{buffer_of, largest_qbits, header_due, refused, sound, report_of}
use Rattle.theory.specs.refusals.SoundDecided.{sound_dec}
use Rattle.theory.specs.program.TextByDue.{report_few}
use Rattle.theory.proofs.program.TextByDue.{report_checked}
use Rattle.layout.specs.declared.numbers.Numbers.{Numbers}
use Rattle.filter.specs.declared.listing.Place.{Place}
use Rattle.layout.specs.declared.refusal.Refusal.{Refusal}
use Rattle.layout.specs.Refusals.{number}
use Rattle.layout.specs.Records.{lowest_due, SoundOf}
use Rattle.filter.specs.Listing.{Begins}
use Rattle.filter.specs.Steps.{begun_at}
use Rattle.check_list.specs.Steps.{numbers_of, Ready}

module _ (s : List ℕ) (n : Numbers) (b : List ℕ) (is : n ≡ numbers_of s) (from : b ≡ buffer_of s) (none : header_due s ≡ 0) where
  text : Checked n.qbits n.rbits n.len n.max_qbits b (λ k. report_of s ≡ refused k) (λ l. report_of s ≡ sound n.len l)
  text = rw (is, from) (report_checked s none)

  pub text_refused : (k : Refusal) → Begins n b (Err k) → report_of s ≡ refused (number k)
  text_refused k a = go (eq-zero-or-pos (lowest_due n b)) (sound_dec n.qbits n.rbits n.len n.max_qbits b)
    where
      go : (lowest_due n b ≡ 0) ⊎ (0 < lowest_due n b) → Dec (SoundOf n b) → report_of s ≡ refused (number k)
      go (inr d) y =
          let f = a.early d in
          let g : lowest_due n b ≡ number k = cc in
          text.early d ∙ ap refused g
      go (inl e) (no y) =
          let f = a.damaged e y in
          let g : 6 ≡ number k = cc in
          text.damaged e y ∙ ap refused g
      go (inl e) (yes y) =
          let f = a.sound e y.held y.holds in
          let z : ◌≡◌ {A = ℕ} 0 1 = cc in
          absurd (omega arith)

  pub text_sound : (h : SoundOf n b) → report_of s ≡ sound n.len h.held
  text_sound h = text.sound h.none h.held h.holds

  pub text_few : SoundOf n b → n.len < slots largest_qbits
  text_few h = rw is (report_few s none (rw (is, from) at h))

-- a beginning that gave a place
pub begun_ready : (n : Numbers) (b : List ℕ) (p : Place) → Begins n b (Ok p) → Ready n b p
begun_ready n b p a =
    let y = begun_at n b p a in
    record { sound = record { none = y.2; held = y.0; holds = y.1 }; first = y.3 }
