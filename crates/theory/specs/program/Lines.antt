-- A line per fingerprint, one by one. Assumes nothing.
use Rattle.std.specs.Prelude.{ℕ, suc, ◌*◌, ◌<◌, ◌≡◌, refl, List, [], ◌∷◌, ◌++◌, length, take, get_or}
use Rattle.std.proofs.Common.{sym, ap, ◌∙◌, append_assoc, append-nil, arith, length-append, take-suc}
use Rattle.theory.specs.Text.{ascii, hex, line, lines}
use Rattle.theory.specs.program.Numerals.{hex_length}

pub line_length : (f : ℕ) → length (line f) ≡ 17
unfolding line ascii
line_length f = omega (arith, length-append (hex 16 f) (10 ∷ []), hex_length 16 f)

pub lines_length : (l : List ℕ) → length (lines l) ≡ 17 * length l
unfolding lines
lines_length [] = refl
lines_length (f ∷ l) = omega (arith, length-append (line f) (lines l), line_length f, lines_length l)

lines_append : (l m : List ℕ) → lines (l ++ m) ≡ lines l ++ lines m
unfolding lines
lines_append [] m = refl
lines_append (f ∷ l) m = ap (λ (t : List ℕ). line f ++ t) (lines_append l m) ∙ sym (append_assoc (line f) (lines l) (lines m))

-- the line behind the first k
pub lines_next : (l : List ℕ) (k : ℕ) → k < length l → lines (take (suc k) l) ≡ lines (take k l) ++ line (get_or l k 0)
unfolding lines
lines_next l k h = ap lines (take-suc l k 0 h) ∙ lines_append (take k l) (get_or l k 0 ∷ []) ∙ ap (λ (t : List ℕ). lines (take k l) ++ t) (append-nil (line (get_or l k 0)))
