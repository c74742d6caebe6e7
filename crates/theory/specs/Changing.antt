-- The rules of insert and remove on the list held; every promise of an insert or a remove cites them. f is the fingerprint, l the list, most is max_count.
use Rattle.std.specs.Prelude.{ℕ, min, List, length}
use Rattle.std.proofs.Math.Decide.{dec_le}
use Rattle.theory.specs.tools.Choose.{choose}
use Rattle.theory.specs.Holding.{copies, more, fewer}

-- a rule: the number that is due, 0 for none, what is answered, and what is held afterwards
pub record Rule : Type 0 where
  pub due : List ℕ → ℕ
  pub answer : List ℕ → ℕ
  pub held : List ℕ → List ℕ

-- one copy more, unless c are held
unfoldable pub up_to : ℕ → ℕ → List ℕ → List ℕ
up_to c f l = choose (dec_le c (copies f l)) l (more f l)

-- ---- insert
-- 7: a copy more is due, and len is at capacity
unfoldable pub insert_due : ℕ → ℕ → ℕ → List ℕ → ℕ
insert_due capacity most f l = choose (dec_le most (copies f l)) 0 (choose (dec_le capacity (length l)) 7 0)

-- the answer: the smaller of the copies held and max_count
unfoldable pub insert_answer : ℕ → ℕ → List ℕ → ℕ
insert_answer most f l = min (copies f l) most

-- what is held afterwards
unfoldable pub inserted : ℕ → ℕ → List ℕ → List ℕ
inserted most f l = up_to most f l

abbrev pub insert_rule : ℕ → ℕ → ℕ → Rule
insert_rule capacity most f = record { due = insert_due capacity most f; answer = insert_answer most f; held = inserted most f }

-- ---- remove
-- true, 1, exactly if it is held
unfoldable pub remove_answer : ℕ → List ℕ → ℕ
remove_answer f l = min 1 (copies f l)

-- nothing is due; one copy fewer is held, of an absent one none fewer
abbrev pub remove_rule : ℕ → Rule
remove_rule f = record { due = λ _. 0; answer = remove_answer f; held = fewer f }
