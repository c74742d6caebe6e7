-- Sound: no number from 1 to 5 is due, and the bytes are the image of a holding that has len fingerprints. docs/RULES.md, "Sound".
use Rattle.std.specs.Prelude.{ℕ, ◌-◌, ◌^◌, ◌<◌, ◌≡◌, List, length, drop}
use Rattle.theory.specs.Holding.{Holding}
use Rattle.theory.specs.Shape.{slots}
use Rattle.theory.specs.Image.{image}
use Rattle.theory.specs.Refusal.{due}

-- the buffer s is the image of l, a holding of len fingerprints
pub record Holds (q r len : ℕ) (s l : List ℕ) : Type 0 where
  pub holding : Holding (slots q) (2 ^ r) l
  pub many : length l ≡ len
  pub bytes : s ≡ image q r l

pub record Sound (q r len mx : ℕ) (s : List ℕ) : Type 0 where
  pub none : due q r len mx (length s) ≡ 0
  pub held : List ℕ
  pub holds : Holds q r len s held

-- a checked call on a filter: the lowest of 1 to 6 that is due is refused, and else what is right for the list held is done
pub record Checked (q r len mx : ℕ) (s : List ℕ) (refused : ℕ → Type 0) (right : List ℕ → Type 0) : Type 0 where
  pub early : 0 < due q r len mx (length s) → refused (due q r len mx (length s))
  pub damaged : due q r len mx (length s) ≡ 0 → ¬ (Sound q r len mx s) → refused 6
  pub sound : due q r len mx (length s) ≡ 0 → (l : List ℕ) → Holds q r len s l → right l

-- a quick call asks 1 to 5 and then works: right where the buffer is sound, and `left` is what it leaves alone on any other
pub record Quick (q r len mx : ℕ) (s : List ℕ) (refused : ℕ → Type 0) (right : List ℕ → Type 0) (left : Type 0) : Type 0 where
  pub early : 0 < due q r len mx (length s) → refused (due q r len mx (length s))
  pub sound : due q r len mx (length s) ≡ 0 → (l : List ℕ) → Holds q r len s l → right l
  pub other : left

-- the last eight bytes of a buffer
abbrev pub last_eight : List ℕ → List ℕ
last_eight s = drop (length s - 8) s
