-- A list's file, and what the program reads in it. That it writes the list for every such file is in proofs/program/Files. Assumes nothing.
use Rattle.std.specs.Prelude.{ℕ, ◌^◌, ◌<◌, ◌≡◌, List, ◌∷◌, ◌++◌}
use Rattle.std.proofs.Math.Path.{refl}
use Rattle.std.proofs.Common.{arith}
use Rattle.theory.specs.number.Bytes.{to_bytes, le_to_bytes}
use Rattle.theory.specs.Report.{len_of, qbits_of, rbits_of, max_of, family_of, buffer_of, mark_due}
use Rattle.theory.specs.refusals.ProgramAsks.{mark_none}

-- the mark, len, qbits, rbits, max_qbits, the family and the buffer
unfoldable pub file_of : ℕ → ℕ → ℕ → ℕ → ℕ → List ℕ → List ℕ
file_of len q r mx family b = 0x51 ∷ 0x46 ∷ (to_bytes 8 len ++ (q ∷ r ∷ mx ∷ (to_bytes 8 family ++ b)))

module _ (len q r mx family : ℕ) (b : List ℕ) where
  pub len_back : len < 2 ^ 64 → len_of (file_of len q r mx family b) ≡ len
  unfolding len_of file_of to_bytes
  len_back h = le_to_bytes 8 len h

  pub qbits_back : qbits_of (file_of len q r mx family b) ≡ q
  unfolding qbits_of file_of to_bytes
  qbits_back = refl

  pub rbits_back : rbits_of (file_of len q r mx family b) ≡ r
  unfolding rbits_of file_of to_bytes
  rbits_back = refl

  pub max_back : max_of (file_of len q r mx family b) ≡ mx
  unfolding max_of file_of to_bytes
  max_back = refl

  -- nothing written depends on it, but it is there to be read
  pub family_back : family < 2 ^ 64 → family_of (file_of len q r mx family b) ≡ family
  unfolding family_of file_of to_bytes
  family_back h = le_to_bytes 8 family h

  pub buffer_back : buffer_of (file_of len q r mx family b) ≡ b
  unfolding buffer_of file_of to_bytes
  buffer_back = refl

  pub marked : mark_due (file_of len q r mx family b) ≡ 0
  unfolding file_of to_bytes
  marked = mark_none (file_of len q r mx family b) (omega arith) refl refl
