-- The table of refusals (docs/RULES.md, "Refusals"): each number, or 0 where it is not due, and the lowest that is due.
-- The numbers of a filter: len, qbits q, rbits r, max_qbits mx (0 means none); size is the length of its buffer.
use Rattle.std.specs.Prelude.{ℕ, zero, suc, ◌+◌, ◌-◌}
use Rattle.std.proofs.Math.Decide.{dec_le, dec_lt, ℕ_discrete}
use Rattle.theory.specs.tools.Choose.{choose}
use Rattle.theory.specs.Shape.{slots, capacity, bytes}

-- 1: qbits outside 6 ..= 59, rbits 0, or qbits + rbits > 64
unfoldable pub widths_due : ℕ → ℕ → ℕ
widths_due q r =
    choose (dec_lt q 6) 1 (choose (dec_lt 59 q) 1 (choose (dec_lt r 1) 1 (choose (dec_lt 64 (q + r)) 1 0)))

-- 2: buffer length isn't the formula's
unfoldable pub size_due : ℕ → ℕ → ℕ → ℕ
size_due q r size = choose (ℕ_discrete size (bytes q r)) 0 2

-- 3: len > slots
unfoldable pub len_due : ℕ → ℕ → ℕ
len_due q len = choose (dec_lt (slots q) len) 3 0

-- 4: a max_qbits other than 0 that is below qbits, or above 59, or leaves no bit of remainder
unfoldable pub max_due : ℕ → ℕ → ℕ → ℕ
max_due q r mx =
    choose (ℕ_discrete mx 0) 0 (choose (dec_lt mx q) 4 (choose (dec_lt 59 mx) 4 (choose (dec_lt (q + r - 1) mx) 4 0)))

-- 5: len above capacity, and not above slots
unfoldable pub full_due : ℕ → ℕ → ℕ
full_due q len = choose (dec_lt (capacity q) len) (choose (dec_le len (slots q)) 5 0) 0

-- 12: destination length wrong
unfoldable pub destination_due : ℕ → ℕ → ℕ → ℕ
destination_due q r size = choose (ℕ_discrete size (bytes q r)) 0 12

-- what is asked first is given first
unfoldable pub or_else : ℕ → ℕ → ℕ
or_else zero b = b
or_else (suc a) b = suc a

-- the lowest of 2 to 5 that is due, or 0; and of 1 to 5
unfoldable pub due_of : ℕ → ℕ → ℕ → ℕ → ℕ → ℕ
due_of q r len mx size = or_else (size_due q r size) (or_else (len_due q len) (or_else (max_due q r mx) (full_due q len)))

unfoldable pub due : ℕ → ℕ → ℕ → ℕ → ℕ → ℕ
due q r len mx size = or_else (widths_due q r) (due_of q r len mx size)
