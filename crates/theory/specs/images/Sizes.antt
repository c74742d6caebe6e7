-- The numbers of an allowed shape, and how large they are. Assumes nothing.
use Rattle.std.specs.Prelude.{ℕ, ◌+◌, ◌-◌, ◌*◌, ◌/◌, ◌%◌, ◌^◌, ◌≤◌, ◌<◌, ◌≡◌}
use Rattle.std.proofs.Common.{arith, mul-le-mul, mod-lt, pow_pos, pow-add, pow_mono}
use Rattle.std.proofs.Math.Pow as P
use Rattle.std.proofs.Math.Pow.{mod-mod-pow}
use Rattle.theory.specs.Shape.{Widths, bytes, slots, blocks, fingerprint, capacity}
use Rattle.theory.specs.images.Block.{block_le, block}

pub slots_pos : (q : ℕ) → 0 < slots q
unfolding slots
slots_pos q = pow_pos q

-- 64 slots a block
pub slots_blocks : (q : ℕ) → 6 ≤ q → slots q ≡ 64 * blocks q
unfolding slots blocks
slots_blocks q h =
    let e : (q - 6) + 6 ≡ q = omega arith in
    rw (← e, pow-add 2 (q - 6) 6) (omega arith)

pub slots_low : (q : ℕ) → 6 ≤ q → 64 ≤ slots q
unfolding slots
slots_low q h = pow_mono h

pub slots_high : (q : ℕ) → q ≤ 59 → slots q ≤ 2 ^ 59
unfolding slots
slots_high q h = pow_mono h

pub blocks_high : (q : ℕ) → q ≤ 59 → blocks q ≤ 2 ^ 53
unfolding blocks
blocks_high q h = omega (arith, slots_high q h)

pub bytes_high : (q r : ℕ) → Widths q r → bytes q r ≤ 2 ^ 62
unfolding bytes
bytes_high q r w =
    let p : blocks q * (17 + 8 * r) ≤ 2 ^ 53 * 481 = mul-le-mul {n₂ = 2 ^ 53} {m₂ = 481} (blocks_high q w.high) (omega (arith, w.sum, w.low)) in
    omega arith

-- a block lies in the buffer, with eight bytes behind it
pub block_in : (q r b : ℕ) → b < blocks q → block r b + 17 + 8 * r + 8 ≤ bytes q r
unfolding bytes
block_in q r b l = omega (arith, block_le r b (blocks q) l)

-- a slot taken round the end
pub slot_round : (q z s : ℕ) → z ≡ slots q → s % z < slots q
slot_round q z s e = rw e (mod-lt s (slots_pos q))

-- a slot's block
pub slot_block : (q s : ℕ) → 6 ≤ q → s < slots q → s / 64 < blocks q
slot_block q s h l = omega (arith, slots_blocks q h)

-- the quotient and the remainder of a fingerprint, from the hash
pub fingerprint_lt : (q r h : ℕ) → fingerprint q r h < slots q * 2 ^ r
unfolding fingerprint slots
fingerprint_lt q r h = rw (← pow-add 2 q r) (mod-lt h (pow_pos (q + r)))

pub fingerprint_quotient : (q r h : ℕ) → fingerprint q r h / 2 ^ r ≡ h / 2 ^ r % slots q
unfolding fingerprint slots
fingerprint_quotient q r h = P.field h q r

pub fingerprint_remainder : (q r h : ℕ) → fingerprint q r h % 2 ^ r ≡ h % 2 ^ r
unfolding fingerprint
fingerprint_remainder q r h = mod-mod-pow h q r

pub capacity_lt : (q : ℕ) → 6 ≤ q → capacity q < slots q
unfolding capacity
capacity_lt q h = omega (arith, slots_low q h)

-- what is above capacity, told by the free slots, without a division
pub past_capacity : (q len : ℕ) → len ≤ slots q → 20 * (slots q - len + 1) ≤ slots q → capacity q < len
unfolding capacity
past_capacity q len few h = omega arith

pub within_capacity : (q len : ℕ) → len ≤ slots q → slots q < 20 * (slots q - len + 1) → len ≤ capacity q
unfolding capacity
within_capacity q len few h = omega arith

-- the next width has room for all
pub next_room : (q len : ℕ) → len < slots q → len ≤ capacity (q + 1)
unfolding capacity slots
next_room q len h =
    let e : 2 ^ (q + 1) ≡ 2 ^ q * 2 = pow-add 2 q 1 in
    omega arith
