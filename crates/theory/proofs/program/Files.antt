-- Every list of at most capacity with qbits up to the limit has a file, and for that file the program writes the list: an impostor that always refuses fails.
-- Assumes nothing.
use Rattle.std.specs.Prelude.{ℕ, ◌^◌, ◌≤◌, ◌<◌, ◌≡◌, List, length}
use Rattle.std.proofs.Math.Path.{refl}
use Rattle.std.proofs.Common.{◌∙◌, arith, pow_mono}
use Rattle.theory.specs.Shape.{slots, capacity, Widths}
use Rattle.theory.specs.Holding.{Holding}
use Rattle.theory.specs.Image.{image}
use Rattle.theory.specs.Refusal.{due}
use Rattle.theory.specs.Sound.{Holds}
use Rattle.theory.specs.Report.{largest_qbits, header_due, sound, report_of}
use Rattle.theory.specs.refusals.Demands.{a_filter}
use Rattle.theory.specs.refusals.ByNumber.{widths_none}
use Rattle.theory.specs.refusals.ProgramAsks.{header_limit, limit_none}
use Rattle.theory.proofs.program.TextByDue.{report_checked}
use Rattle.theory.specs.program.Files.{file_of, len_back, qbits_back, rbits_back, max_back, buffer_back, marked}

module _ (len q r mx family : ℕ) (b : List ℕ) where
  -- a sound list
  sound_file : len < 2 ^ 64 → q ≤ largest_qbits → Widths q r → due q r len mx (length b) ≡ 0 → (l : List ℕ) → Holds q r len b l → report_of (file_of len q r mx family b) ≡ sound len l
  sound_file word m w e l h =
      let none : header_due (file_of len q r mx family b) ≡ 0 = header_limit (file_of len q r mx family b) (marked len q r mx family b) (rw ((qbits_back len q r mx family b), (rbits_back len q r mx family b)) (widths_none q r w)) ∙ rw (qbits_back len q r mx family b) (limit_none q m) in
      let c = rw ((qbits_back len q r mx family b), (rbits_back len q r mx family b), len_back len q r mx family b word, (max_back len q r mx family b), (buffer_back len q r mx family b)) at (report_checked (file_of len q r mx family b) none) in
      c.sound e l h

-- every holding of at most capacity, whichever family it is of
pub list_file : (q r family : ℕ) (l : List ℕ) → q ≤ largest_qbits → Widths q r → Holding (slots q) (2 ^ r) l → length l ≤ capacity q → report_of (file_of (length l) q r 0 family (image q r l)) ≡ sound (length l) l
unfolding slots largest_qbits
list_file q r family l m w h room =
    sound_file (length l) q r 0 family (image q r l) (omega (arith, h.fewer, pow_mono m)) m w (a_filter q r l w h room).none l (record { holding = h; many = refl; bytes = refl })
