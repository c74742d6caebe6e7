-- Where one copy more goes in a run, found by a scan that stops at the first larger remainder. Assumes nothing.
use Rattle.std.specs.Prelude.{ℕ, zero, suc, ◌≤◌, ◌<◌, ◌≡◌, List, [], ◌∷◌, length, get_or, drop}
use Rattle.std.proofs.Common.{ap, ◌∙◌, arith, drop-cons}
use Rattle.std.proofs.Math.Decide.{dec_le}
use Rattle.theory.specs.tools.Choose.{choose_no, choose_yes}
use Rattle.theory.specs.Holding.{copies, Ascending, Least}
use Rattle.theory.specs.list.Copies.{copies_least}
use Rattle.theory.specs.list.More.{least_mono, place}
use Rattle.theory.specs.list.Scan.{drop_past}

pub place_pass : (r : ℕ) (l : List ℕ) (k : ℕ) → k < length l → get_or l k 0 ≤ r → place r (drop k l) ≡ suc (place r (drop (suc k) l))
unfolding place
place_pass r l k h e = ap (place r) (drop-cons l k 0 h) ∙ choose_yes (dec_le (get_or l k 0) r) (suc (place r (drop (suc k) l))) 0 e

pub place_stop : (r : ℕ) (l : List ℕ) (k : ℕ) → k < length l → r < get_or l k 0 → place r (drop k l) ≡ 0
unfolding place
place_stop r l k h e = ap (place r) (drop-cons l k 0 h) ∙ choose_no (dec_le (get_or l k 0) r) (suc (place r (drop (suc k) l))) 0 (λ z. omega arith)

pub place_over : (r : ℕ) (l : List ℕ) (k : ℕ) → length l ≤ k → place r (drop k l) ≡ 0
unfolding place
place_over r l k h = ap (place r) (drop_past l k h)

pub drop_ascending : (l : List ℕ) (k : ℕ) → Ascending l → Ascending (drop k l)
unfolding Ascending
drop_ascending l zero a = a
drop_ascending [] (suc k) a = tt
drop_ascending (f ∷ l) (suc k) a = drop_ascending l k a.1

-- behind a larger one there is no equal one
pub copies_stop : (r : ℕ) (l : List ℕ) (k : ℕ) → Ascending l → k < length l → r < get_or l k 0 → copies r (drop k l) ≡ 0
unfolding Ascending Least
copies_stop r l k a h e = ap (copies r) (drop-cons l k 0 h) ∙ copies_least r (get_or l k 0 ∷ drop (suc k) l) (e, least_mono (suc r) (get_or l k 0) (drop (suc k) l) e rest.0)
  where
    rest : Least (get_or l k 0) (drop (suc k) l) × Ascending (drop (suc k) l)
    rest = rw (drop-cons l k 0 h) at (drop_ascending l k a)
