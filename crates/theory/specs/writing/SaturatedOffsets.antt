-- Offset bytes at the edge of what a byte tells: how one copy more counts them up and one copy fewer down, at 254, 255 and 256 too. Assumes nothing.
use Rattle.std.specs.Prelude.{ℕ, suc, ◌+◌, ◌-◌, ◌*◌, ◌/◌, ◌≤◌, ◌<◌, min, ◌≡◌, List, length}
use Rattle.std.proofs.Common.{arith}
use Rattle.theory.specs.Holding.{more, Holding}
use Rattle.theory.specs.Image.{carry, many}
use Rattle.theory.specs.carry.CarryMore.{upto_in}
use Rattle.theory.specs.writing.OneMore.{room, more_carry}

-- x is a slot where the carry changes: behind the quotient of f, as far as the slot that the copy fills or frees
module _ (m R : ℕ) (pos : 0 < R) (l : List ℕ) (f : ℕ) (h : Holding m R l) (u : f < m * R) (k : suc (length l) < m)
    (x : ℕ) (low : f / R < x) (high : x ≤ (room m R pos l f h u k).at) where
  -- the carry there without the copy and with it, and the byte that tells a carry
  abbrev c : ℕ
  c = carry m (many m R l) x

  abbrev c' : ℕ
  c' = carry m (many m R (more f l)) x

  abbrev byte : ℕ → ℕ
  byte z = min z 255

  one : c' ≡ c + 1
  one = omega (arith, more_carry m R pos l f h u k x low (omega (arith, (room m R pos l f h u k).to)), upto_in (room m R pos l f h u k).at x high)

  -- up: a byte below 255 by one, and 255 stays
  pub up_below : byte c < 255 → byte c' ≡ byte c + 1
  up_below b = omega (arith, one)

  pub up_254 : c ≡ 254 → (byte c ≡ 254) × (byte c' ≡ 255)
  up_254 e = (omega arith, omega (arith, one))

  pub up_255 : byte c ≡ 255 → byte c' ≡ 255
  up_255 b = omega (arith, one)

  -- down: a byte below 255 by one
  pub down_below : byte c' < 255 → byte c ≡ byte c' - 1
  down_below b = omega (arith, one)

  -- a stored 255 to 254 if it is the carry itself, and it stays if the carry is 256 or more: the byte alone does not tell which
  pub down_255 : c' ≡ 255 → (byte c' ≡ 255) × (byte c ≡ 254)
  down_255 e = (omega arith, omega (arith, one))

  pub down_256 : 256 ≤ c' → (byte c' ≡ 255) × (byte c ≡ 255)
  down_256 b = (omega arith, omega (arith, one))
