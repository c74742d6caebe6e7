-- Planning: which widths serve a capacity and a rate, what is then told of the filter, and which numbers planning and a fresh filter ask.
-- docs/RULES.md, "Planning".
use Rattle.std.specs.Prelude.{ℕ, zero, suc, ◌+◌, ◌-◌, ◌*◌, false, cond, pos, negsuc, Float}
use Rattle.std.proofs.Math.Decide.{dec_le, dec_lt, ℕ_discrete}
use Rattle.std.specs.Float.{fin}
use Rattle.std.specs.Float.Ieee.{lt}
use Rattle.theory.specs.tools.Choose.{choose}
use Rattle.theory.specs.Shape.{capacity}
use Rattle.theory.specs.Refusal.{or_else, widths_due, max_due, destination_due}

-- the first width from q on whose capacity suffices, and q + k if none of the k before it does
unfoldable pub width_from : ℕ → ℕ → ℕ → ℕ
width_from zero q c = q
width_from (suc k) q c = choose (dec_le c (capacity q)) q (width_from k (suc q) c)

-- qbits: the least from 6 on with the capacity asked for; for capacities up to that of 2 ^ 59 slots
unfoldable pub needed_qbits : ℕ → ℕ
needed_qbits c = width_from 53 6 c

-- 2 ^ -k as a float
abbrev pub half_pow : ℕ → Float
half_pow zero = fin false 1 (pos 0)
half_pow (suc k) = fin false 1 (negsuc k)

-- the first number from k on whose 2 ^ -k the rate is not below, and k + j if none of the j before it is one
unfoldable pub halvings : ℕ → ℕ → Float → ℕ
halvings zero k rate = k
halvings (suc j) k rate = cond (lt rate (half_pow k)) (halvings j (suc k) rate) k

-- rbits: the first k from 1 on for which 2 ^ -k is not above the rate, and at most 64: to clamp the rate to 2 ^ -64 .. 0.5 first changes nothing (plan/Clamp).
-- A rate that is not a number is below nothing, and gives 1.
unfoldable pub rbits_for : Float → ℕ
rbits_for rate = halvings 63 1 rate

-- bits_per_item is exactly rbits + 2.125, the float (8 * rbits + 17) * 2 ^ -3
abbrev pub per_item : ℕ → Float
per_item r = fin false (8 * r + 17) (negsuc 2)

-- a filter that can grow: as many bits of remainder more as it may lose, and no max_qbits where it cannot grow at all
unfoldable pub planned_rbits : ℕ → ℕ → Float → ℕ
planned_rbits initial most rate = rbits_for rate + (needed_qbits most - needed_qbits initial)

unfoldable pub planned_max : ℕ → ℕ → ℕ
planned_max initial most = choose (ℕ_discrete (needed_qbits most) (needed_qbits initial)) 0 (needed_qbits most)

-- 9: planned widths sum above 64
unfoldable pub sum_due : ℕ → ℕ → ℕ
sum_due q r = choose (dec_lt 64 (q + r)) 9 0

-- 10: planned capacity above 547637714688252314, the capacity of 2 ^ 59 slots
abbrev pub largest_capacity : ℕ
largest_capacity = 547637714688252314

unfoldable pub capacity_due : ℕ → ℕ
capacity_due c = choose (dec_lt largest_capacity c) 10 0

-- 11: planned maximum below initial
unfoldable pub order_due : ℕ → ℕ → ℕ
order_due initial most = choose (dec_lt most initial) 11 0

-- planning asks 11, 10, 9: for specs, which have no initial capacity, and for a resizeable filter
unfoldable pub specs_due : ℕ → Float → ℕ
specs_due c rate = or_else (capacity_due c) (sum_due (needed_qbits c) (rbits_for rate))

unfoldable pub plan_due : ℕ → ℕ → Float → ℕ
plan_due initial most rate =
    or_else (order_due initial most) (or_else (capacity_due most) (sum_due (needed_qbits initial) (planned_rbits initial most rate)))

-- what a fresh filter asks of the widths and of the length of the buffer: 1, 4, 12
unfoldable pub fresh_due : ℕ → ℕ → ℕ → ℕ → ℕ
fresh_due q r mx size = or_else (widths_due q r) (or_else (max_due q r mx) (destination_due q r size))
