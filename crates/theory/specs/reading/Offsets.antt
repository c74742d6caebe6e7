-- Offset bytes: each tells the carry before its block, or that it is 255 or more. Some block's byte tells it, and from there the next is told by the runs.
-- Assumes nothing.
use Rattle.std.specs.Prelude.{ℕ, ◌+◌, ◌-◌, ◌*◌, ◌/◌, ◌%◌, ◌≤◌, ◌<◌, min, ◌≡◌}
use Rattle.std.proofs.Common.{sym, ap, ◌∙◌, arith, add-zero, div-add-mod', mod-eq_of_lt, mul_left_comm}
use Rattle.std.proofs.Math.Decide.{dec_lt}
use Rattle.std.proofs.Math.Nat.{add-mod_right}
use Rattle.theory.specs.Image.{carry, Views}
use Rattle.theory.specs.carry.Carry.{free_start, FirstFree, first_free, start_le, Round, start_carry, carry_per}
use Rattle.theory.specs.images.LaidOut.{per_mod}

abbrev pub Offsets : ℕ → (ℕ → ℕ) → Views → Type 0
Offsets m n v = (b : ℕ) → 64 * b < m → v.offset b ≡ min (carry m n (64 * b)) 255

module _ (m B : ℕ) (whole : m ≡ 64 * B) (n : ℕ → ℕ) (r : Round m n) where
  -- less than a round is carried
  pub carry_lt : (x : ℕ) → carry m n x < m
  carry_lt x = omega (arith, start_carry m n x, start_le m n x z.at z.from, free_start m n z.at z.free, z.to)
    where
      z : FirstFree m n x
      z = first_free m n r x

  -- a block that has a free slot carries less than a block
  pub known_block : (c : ℕ) × (c < B) × (carry m n (64 * c) < 64)
  known_block = (z.at / 64, omega (arith, z.to), omega (arith, start_carry m n (64 * (z.at / 64)), start_le m n (64 * (z.at / 64)) z.at (omega arith), free_start m n z.at z.free))
    where
      z : FirstFree m n 0
      z = first_free m n r 0

  -- blocks go round
  pub carry_block : (j t : ℕ) → carry m n (64 * j + t) ≡ carry m n (64 * (j % B) + t)
  carry_block j t = ap (carry m n) e ∙ per_mod m (carry m n) (carry_per m n r) (j / B) (64 * (j % B) + t)
    where
      e : 64 * j + t ≡ 64 * (j % B) + t + j / B * m
      e =
          let f : j / B * m ≡ 64 * (j / B * B) = rw whole (mul_left_comm (j / B) 64 B) in
          omega (arith, div-add-mod' j B)

  -- the carry before block j, and before the one behind it
  pub carry_here : (j : ℕ) → carry m n (64 * j) ≡ carry m n (64 * (j % B))
  carry_here j = sym (ap (carry m n) (add-zero (64 * j))) ∙ carry_block j 0 ∙ ap (carry m n) (add-zero (64 * (j % B)))

  pub carry_behind : (j : ℕ) → carry m n (64 * (j % B) + 64) ≡ carry m n (64 * (j + 1))
  carry_behind j =
      let e : 64 * (j + 1) ≡ 64 * j + 64 = omega arith in
      rw e (sym (carry_block j 64))

-- what was seen of the B blocks before block b, round the end, was seen of all
pub back_all : (B b : ℕ) (P : ℕ → Type 0) → b < B → ((j : ℕ) → 1 ≤ j → j < B + 1 → P ((b + B - j) % B)) → (c : ℕ) → c < B → P c
back_all B b P l h c k = go (dec_lt c b)
  where
    go : Dec (c < b) → P c
    go (yes d) =
        let e : b + B - (b - c) ≡ c + B = omega arith in
        rw (e, add-mod_right c B, mod-eq_of_lt k) at (h (b - c) (omega arith) (omega arith))
    go (no d) =
        let e : b + B - (b + B - c) ≡ c = omega arith in
        rw (e, mod-eq_of_lt k) at (h (b + B - c) (omega arith) (omega arith))
