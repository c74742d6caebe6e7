-- The image of a holding (docs/RULES.md, "The image of a holding" and "The bytes of a block"), from the widths and the ascending list of fingerprints to the bytes of the buffer.
-- m is the number of slots and R = 2 ^ rbits. Quotients and slots go round after m.
use Rattle.std.specs.Prelude.{ℕ, zero, suc, ◌+◌, ◌-◌, ◌*◌, ◌%◌, ◌^◌, min, List, [], ◌++◌, length, get_or}
use Rattle.std.proofs.Math.Decide.{dec_lt}
use Rattle.theory.specs.tools.Choose.{choose}
use Rattle.theory.specs.number.Bytes.{to_bytes}
use Rattle.theory.specs.number.Packed.{packed}
use Rattle.theory.specs.Holding.{run}
use Rattle.theory.specs.Shape.{blocks, slots}

-- the sorted remainders of the quotient x, and how many they are, where the quotients repeat after m
unfoldable pub run_at : ℕ → ℕ → List ℕ → ℕ → List ℕ
run_at m R l x = run R l (x % m)

unfoldable pub many : ℕ → ℕ → List ℕ → ℕ → ℕ
many m R l x = length (run_at m R l x)

-- the remainder at a place of a run
unfoldable pub rest_at : ℕ → ℕ → List ℕ → ℕ → ℕ → ℕ
rest_at m R l x j = get_or (run_at m R l x) j 0

-- the carry before quotient x, if it is c before quotient 0
unfoldable pub walk : (ℕ → ℕ) → ℕ → ℕ → ℕ
walk n c zero = c
walk n c (suc x) = walk n c x + n x - 1

-- start with 0 before quotient 0 and go round once: the value reached is the carry before quotient 0
unfoldable pub carry : ℕ → (ℕ → ℕ) → ℕ → ℕ
carry m n x = walk n (walk n 0 m) x

-- where the run of x starts, and the slot behind its last
unfoldable pub start : ℕ → (ℕ → ℕ) → ℕ → ℕ
start m n x = x + carry m n x

-- 1 if some fingerprint has the quotient x
unfoldable pub occ : (ℕ → ℕ) → ℕ → ℕ
occ n x = min 1 (n x)

-- 1 at a run's last place
unfoldable pub last : (ℕ → ℕ) → ℕ → ℕ → ℕ
last n x j = 1 - (n x - suc j)

-- what stands in a buffer: the occupied bit of a slot, its runend bit, its remainder, and the offset byte of a block
pub record Views : Type 0 where
  pub occupied : ℕ → ℕ
  pub runend : ℕ → ℕ
  pub remainder : ℕ → ℕ
  pub offset : ℕ → ℕ

-- how far slot s stands behind slot a, round the end
unfoldable pub behind : ℕ → ℕ → ℕ → ℕ
behind m a s = (s + m - a % m) % m

-- what stands in slot s if the run of each quotient x below k has c x j at its place j, and unused slots have 0
unfoldable pub cell : ℕ → (ℕ → ℕ) → (ℕ → ℕ → ℕ) → ℕ → ℕ → ℕ
cell m n c zero s = 0
cell m n c (suc x) s =
    choose (dec_lt (behind m (start m n x) s) (n x)) (c x (behind m (start m n x) s)) (cell m n c x s)

-- the four views of the image
unfoldable pub views_of : ℕ → ℕ → List ℕ → Views
views_of m R l = record {
  occupied = occ (many m R l);
  runend = cell m (many m R l) (last (many m R l)) m;
  remainder = cell m (many m R l) (rest_at m R l) m;
  offset = λ b. min (carry m (many m R l) (64 * b)) 255;
}

-- block b: its offset byte, the two words of eight bytes, occupieds and runends, and the remainders of its 64 slots end to end, least digits first
unfoldable pub block_of : ℕ → Views → ℕ → List ℕ
block_of r v b =
    to_bytes 1 (v.offset b)
    ++ (to_bytes 8 (packed 1 (λ i. v.occupied (64 * b + i)) 64)
    ++ (to_bytes 8 (packed 1 (λ i. v.runend (64 * b + i)) 64)
    ++ to_bytes (8 * r) (packed r (λ i. v.remainder (64 * b + i)) 64)))

unfoldable pub blocks_of : ℕ → Views → ℕ → List ℕ
blocks_of r v zero = []
blocks_of r v (suc b) = blocks_of r v b ++ block_of r v b

-- all blocks, and the last eight bytes, which are zero
unfoldable pub image : ℕ → ℕ → List ℕ → List ℕ
image q r l = blocks_of r (views_of (slots q) (2 ^ r) l) (blocks q) ++ to_bytes 8 0
