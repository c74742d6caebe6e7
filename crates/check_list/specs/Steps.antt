-- What the functions of the program below the report promise.
use Rattle.std.specs.Prelude.{ℕ, suc, ◌<◌, ◌≡◌, List, length, get_or}
use Rattle.theory.specs.Report.{len_of, qbits_of, rbits_of, max_of, family_of}
use Rattle.theory.specs.Text.{line}
use Rattle.layout.specs.declared.numbers.Numbers.{Numbers}
use Rattle.layout.specs.Records.{empty_record, with_len, lowest_due, SoundOf, HoldsOf}
use Rattle.filter.specs.declared.listing.Place.{Place}
use Rattle.filter.specs.Places.{place_of}
use Rattle.check_list.specs.Written.{Written}

-- the numbers in front of the buffer, as one record
abbrev pub numbers_of : List ℕ → Numbers
numbers_of s = with_len (empty_record (qbits_of s) (rbits_of s) (max_of s) (family_of s)) (len_of s)

-- a step at the place of the k-th fingerprint held: its line, and the place of the next
abbrev pub PutStep : Numbers → List ℕ → Place → List ℕ → List ℕ → Place → Type 0
PutStep n s p before after p' =
    lowest_due n s ≡ 0 → (l : List ℕ) → HoldsOf n s l → (k : ℕ) → k < length l → p ≡ place_of n.qbits n.rbits l k
    → (p' ≡ place_of n.qbits n.rbits l (suc k)) × Written (line (get_or l k 0)) before after 17

-- a sound list and its first place
pub record Ready (n : Numbers) (s : List ℕ) (p : Place) : Type 0 where
  pub sound : SoundOf n s
  pub first : p ≡ place_of n.qbits n.rbits sound.held 0
