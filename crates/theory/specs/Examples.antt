-- The examples that docs/RULES.md, "Examples at the edges", marks as proved, and inputs that the check program refuses, shown from the definitions: one table, and one claim over it, `AllHold table`.
-- A new kind of example is a constructor of `Example` with a clause of `holds`; a new example is a row of `table`, with its proof in `examples` of proofs/Examples.
use Rattle.std.specs.Prelude.{ℕ, zero, suc, ◌+◌, ◌-◌, ◌*◌, ◌^◌, ◌≡◌, List, [], ◌∷◌, ◌++◌, length, get_or, take, drop, replicate, set}
use Prim.Native.String.{String}
use Rattle.theory.specs.Shape.{slots, capacity, blocks, bytes}
use Rattle.theory.specs.Holding.{fewer}
use Rattle.theory.specs.Image.{image}
use Rattle.theory.specs.Planning.{needed_qbits}
use Rattle.theory.specs.Select.{Position, place, none, Selects}
use Rattle.theory.specs.Text.{ascii}
use Rattle.theory.specs.Report.{report_of}
use Rattle.theory.specs.Sound.{Sound}

-- a byte's place and value
pub data Byte : Type 0 where
  byte : ℕ → ℕ → Byte

-- what is asked, and last what the rules say
pub data Example : Type 0 where
  -- the capacity of 2 ^ qbits slots
  capacity_of : ℕ → ℕ → Example
  -- the slots for a capacity
  slots_for : ℕ → ℕ → Example
  -- the buffer's bytes for qbits and rbits
  bytes_of : ℕ → ℕ → ℕ → Example
  -- the position of the n-th one of a word, counted from 0
  select_of : ℕ → ℕ → Position → Example
  -- the image for qbits and rbits of the fingerprints held: these bytes, all else 0
  image_of : ℕ → ℕ → List ℕ → List Byte → Example
  -- the offset bytes of all its blocks
  offsets_of : ℕ → ℕ → List ℕ → List ℕ → Example
  -- the filter of qbits and rbits, without max_qbits, that holds these fingerprints is sound
  sound_with : ℕ → ℕ → List ℕ → Example
  -- what the check program writes, whole, for an input
  prints : List ℕ → String → Example

-- a buffer of n bytes: these, all else 0
unfoldable pub filled : ℕ → List Byte → List ℕ
filled n [] = replicate n 0
filled n (byte i v ∷ l) = set (filled n l) i v

-- the first bytes of k blocks of z bytes, from block b on
unfoldable pub offset_bytes : ℕ → List ℕ → ℕ → ℕ → List ℕ
offset_bytes z s zero b = []
offset_bytes z s (suc k) b = get_or s (b * z) 0 ∷ offset_bytes z s k (suc b)

-- the definitions say the same
unfoldable pub holds : Example → Type 0
holds (capacity_of q is) = capacity q ≡ is
holds (slots_for c is) = slots (needed_qbits c) ≡ is
holds (bytes_of q r is) = bytes q r ≡ is
holds (select_of x n is) = Selects x n is
holds (image_of q r l is) = image q r l ≡ filled (bytes q r) is
holds (offsets_of q r l is) = offset_bytes (17 + 8 * r) (image q r l) (blocks q) 0 ≡ is
holds (sound_with q r l) = Sound q r (length l) 0 (image q r l)
holds (prints s is) = report_of s ≡ ascii is

-- all of them hold
unfoldable pub AllHold : List Example → Type 0
AllHold [] = Unit {0}
AllHold (e ∷ es) = holds e × AllHold es

-- shape 6/8, holding 0103, 0105, 0203: its buffer, and its file
unfoldable pub held : List ℕ
held = 0x0103 ∷ 0x0105 ∷ 0x0203 ∷ []

unfoldable pub buffer : List Byte
buffer = byte 1 0x06 ∷ byte 9 0x0c ∷ byte 18 0x03 ∷ byte 19 0x05 ∷ byte 20 0x03 ∷ []

unfoldable pub file : List ℕ
file = 0x51 ∷ 0x46 ∷ 0x03 ∷ replicate 7 0x00 ++ (0x06 ∷ 0x08 ∷ 0x00 ∷ replicate 8 0x00 ++ filled 89 buffer)

-- the examples of the rules in their order, and then an input for each number that is due before the buffer is looked at
unfoldable pub table : List Example
table =
    capacity_of 6 61
    ∷ slots_for 0 64
    ∷ slots_for 61 64
    ∷ slots_for 62 128
    ∷ slots_for 122 128
    ∷ slots_for 123 256
    ∷ select_of 0 0 none
    ∷ select_of 11 2 (place 3)
    ∷ select_of (2 ^ 63) 0 (place 63)
    ∷ select_of (2 ^ 64 - 1) 63 (place 63)
    ∷ select_of (2 ^ 64 - 1) 64 none
    ∷ select_of (2 ^ 64 - 1) 128 none
    ∷ bytes_of 6 8 89
    ∷ bytes_of 6 58 489
    ∷ bytes_of 7 8 170
    ∷ image_of 6 8 held buffer
    ∷ prints file "sound 3\n0000000000000103\n0000000000000105\n0000000000000203\n"
    ∷ prints (set (set file 13 0x07) 20 0x80) "sound 3\n0000000000000103\n0000000000000105\n0000000000000203\n"
    ∷ image_of 6 8 (replicate 3 0x3f07) (byte 0 0x02 ∷ byte 8 0x80 ∷ byte 9 0x02 ∷ byte 17 0x07 ∷ byte 18 0x07 ∷ byte 80 0x07 ∷ [])
    ∷ offsets_of 9 8 (replicate 400 0x07) (0 ∷ 255 ∷ 255 ∷ 208 ∷ 144 ∷ 80 ∷ 16 ∷ 0 ∷ [])
    ∷ offsets_of 9 8 (fewer 0x07 (replicate 400 0x07)) (0 ∷ 255 ∷ 255 ∷ 207 ∷ 143 ∷ 79 ∷ 15 ∷ 0 ∷ [])
    ∷ sound_with 6 8 (replicate 61 0x07)
    ∷ prints [] "refused 13\n"
    ∷ prints (take 20 file) "refused 13\n"
    ∷ prints (set file 1 0x47) "refused 13\n"
    ∷ prints (set file 10 5) "refused 1\n"
    ∷ prints (set (set file 10 10) 11 55) "refused 1\n"
    ∷ prints (set file 10 10) "refused 14\n"
    ∷ prints (take 21 file) "refused 2\n"
    ∷ prints (take 109 file) "refused 2\n"
    ∷ prints (take 13 file ++ drop 21 file) "refused 2\n"
    ∷ prints (file ++ (0 ∷ [])) "refused 2\n"
    ∷ prints (set file 2 65) "refused 3\n"
    ∷ prints (set (set file 2 65) 12 5) "refused 3\n"
    ∷ prints (set (set file 2 64) 12 5) "refused 4\n"
    ∷ prints (set file 2 64) "refused 5\n"
    ∷ prints (set file 2 63) "refused 5\n"
    ∷ prints (set file 2 62) "refused 5\n"
    ∷ []
