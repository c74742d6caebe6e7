-- The listing (docs/RULES.md, "Listing"): where the k-th fingerprint of the ascending list held stands. R = 2 ^ rbits, m is the number of slots.
use Rattle.std.specs.Prelude.{ℕ, ◌+◌, ◌-◌, ◌/◌, ◌%◌, List, get_or}
use Rattle.theory.specs.tools.Total.{total}
use Rattle.theory.specs.Image.{many, start}

-- its quotient
unfoldable pub quotient_at : ℕ → List ℕ → ℕ → ℕ
quotient_at R l k = get_or l k 0 / R

-- its slot: as far into the run of its quotient as k is behind the fingerprints of smaller quotients, modulo slots
unfoldable pub slot_at : ℕ → ℕ → List ℕ → ℕ → ℕ
slot_at m R l k = (start m (many m R l) (quotient_at R l k) + (k - total (many m R l) (quotient_at R l k))) % m
