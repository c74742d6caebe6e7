-- The numbers of a shape: qbits q and rbits r. docs/RULES.md, "A filter and its record".
use Rattle.std.specs.Prelude.{ℕ, ◌+◌, ◌*◌, ◌/◌, ◌%◌, ◌^◌, ◌≤◌}

-- slots = 2 ^ qbits
unfoldable pub slots : ℕ → ℕ
slots q = 2 ^ q

-- capacity = 19 * slots / 20 rounded up
unfoldable pub capacity : ℕ → ℕ
capacity q = (19 * slots q + 19) / 20

-- a block has 64 slots
unfoldable pub blocks : ℕ → ℕ
blocks q = slots q / 64

-- buffer length: (slots / 64) * (17 + 8 * rbits) + 8
unfoldable pub bytes : ℕ → ℕ → ℕ
bytes q r = blocks q * (17 + 8 * r) + 8

-- qbits in 6 ..= 59, rbits not 0, qbits + rbits at most 64
pub record Widths (q r : ℕ) : Type 0 where
  pub low : 6 ≤ q
  pub high : q ≤ 59
  pub some : 1 ≤ r
  pub sum : q + r ≤ 64

-- of a hash the low q + r bits count, its fingerprint, and no others
unfoldable pub fingerprint : ℕ → ℕ → ℕ → ℕ
fingerprint q r hash = hash % 2 ^ (q + r)
