-- What the check program writes, whole, for the bytes s of its standard input. docs/RULES.md, "The check program" and "Refusals".
use Rattle.std.specs.Prelude.{ℕ, zero, suc, List, ◌++◌, length, get_or, take, drop}
use Rattle.std.proofs.Math.Decide.{dec_lt, ℕ_discrete}
use Rattle.theory.specs.tools.Choose.{choose}
use Rattle.theory.specs.number.Bytes.{le}
use Rattle.theory.specs.Refusal.{or_else, widths_due, due_of}
use Rattle.theory.specs.Sound.{Sound}
use Rattle.theory.specs.Text.{ascii, headline, lines}
use Rattle.theory.specs.refusals.SoundDecided.{sound_dec}

-- ---- the input: two bytes of mark, eight of len with the lowest first, a byte each of qbits, rbits and max_qbits, eight of the family with the lowest first, and the buffer
-- len
unfoldable pub len_of : List ℕ → ℕ
len_of s = le (take 8 (drop 2 s))

-- qbits, rbits and max_qbits, a byte each
unfoldable pub qbits_of : List ℕ → ℕ
qbits_of s = get_or s 10 0

unfoldable pub rbits_of : List ℕ → ℕ
rbits_of s = get_or s 11 0

unfoldable pub max_of : List ℕ → ℕ
max_of s = get_or s 12 0

-- the family, which the text does not show
unfoldable pub family_of : List ℕ → ℕ
family_of s = le (take 8 (drop 13 s))

-- how many bytes stand in front of the buffer, and the buffer
abbrev pub header_bytes : ℕ
header_bytes = 21

unfoldable pub buffer_of : List ℕ → List ℕ
buffer_of s = drop header_bytes s

-- ---- what is due
-- 13: shorter than what stands in front of the buffer, or wrong mark
unfoldable pub mark_due : List ℕ → ℕ
mark_due s =
    choose (dec_lt (length s) header_bytes) 13 (choose (ℕ_discrete (get_or s 0 0) 0x51) (choose (ℕ_discrete (get_or s 1 0) 0x46) 0 13) 13)

-- 14: qbits above the program's limit
unfoldable pub largest_qbits : ℕ
largest_qbits = 9

unfoldable pub limit_due : ℕ → ℕ
limit_due q = choose (dec_lt largest_qbits q) 14 0

-- 13, 1, 14, and then the lowest of 2 to 5; 0 where none is due
unfoldable pub header_due : List ℕ → ℕ
header_due s = or_else (mark_due s) (or_else (widths_due (qbits_of s) (rbits_of s)) (limit_due (qbits_of s)))

unfoldable pub number_due : List ℕ → ℕ
number_due s = or_else (header_due s) (due_of (qbits_of s) (rbits_of s) (len_of s) (max_of s) (length (buffer_of s)))

-- ---- what is written
-- a refusal
unfoldable pub refused : ℕ → List ℕ
refused k = headline (ascii "refused") k

-- len, and a line per fingerprint held
unfoldable pub sound : ℕ → List ℕ → List ℕ
sound len l = headline (ascii "sound") len ++ lines l

-- where none of those numbers is due: 6, or len and the list held
unfoldable pub checked : {q r len mx : ℕ} {b : List ℕ} → Dec (Sound q r len mx b) → List ℕ
checked (no _) = refused 6
checked {len = len} (yes h) = sound len h.held

-- a number that is due is refused, and else the text stands
unfoldable pub answer : ℕ → List ℕ → List ℕ
answer zero text = text
answer (suc k) text = refused (suc k)

-- the whole text
unfoldable pub report_of : List ℕ → List ℕ
report_of s = answer (number_due s) (checked (sound_dec (qbits_of s) (rbits_of s) (len_of s) (max_of s) (buffer_of s)))
