-- Text as a list of ASCII codes: numbers, and the lines that the check program writes.
use Rattle.std.specs.Prelude.{ℕ, zero, suc, ◌+◌, ◌-◌, ◌/◌, ◌%◌, List, [], ◌∷◌, ◌++◌}
use Prim.Native.Char.{code}
use Prim.Native.String.{String, [] as none, ◌∷◌ as ◌then◌}
use Rattle.std.proofs.Math.Decide.{dec_lt}
use Rattle.theory.specs.tools.Choose.{choose}

-- a quoted text
unfoldable pub ascii : String → List ℕ
ascii none = []
ascii (c then s) = code c ∷ ascii s

-- a digit: 0 to 9, then a to f
unfoldable pub digit : ℕ → ℕ
digit d = choose (dec_lt d 10) (code "0" + d) (code "a" + (d - 10))

-- the last k digits of n in base 16, the highest first
unfoldable pub hex : ℕ → ℕ → List ℕ
hex zero n = []
hex (suc k) n = hex k (n / 16) ++ (digit (n % 16) ∷ [])

-- n in decimal, in k steps at most; n + 1 steps are always enough
unfoldable pub decimal_in : ℕ → ℕ → List ℕ
decimal_in zero n = []
decimal_in (suc k) n = choose (dec_lt n 10) (digit n ∷ []) (decimal_in k (n / 10) ++ (digit (n % 10) ∷ []))

-- n in decimal
unfoldable pub decimal : ℕ → List ℕ
decimal n = decimal_in (suc n) n

-- a line of a word, a space and a number
unfoldable pub headline : List ℕ → ℕ → List ℕ
headline word n = word ++ (ascii " " ++ (decimal n ++ ascii "\n"))

-- a line of 16 lowercase hex digits
unfoldable pub line : ℕ → List ℕ
line f = hex 16 f ++ ascii "\n"

-- a line per fingerprint
unfoldable pub lines : List ℕ → List ℕ
lines [] = []
lines (f ∷ l) = line f ++ lines l
