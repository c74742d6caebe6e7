-- The rules of insert and remove, case by case. Assumes nothing.
use Rattle.std.specs.Prelude.{ℕ, ◌≤◌, ◌<◌, ◌≡◌, refl, ◌⊎◌, List, [], ◌∷◌, length}
use Rattle.std.proofs.Common.{ap, ◌∙◌, inl, inr}
use native.Mathlib.Omega.{arith}
use Rattle.std.proofs.Math.Decide.{dec_le, ℕ_discrete}
use Rattle.theory.specs.tools.Choose.{choose, choose_by, choose_yes, choose_no}
use Rattle.theory.specs.Holding.{copies, more, fewer}
use Rattle.theory.specs.Changing.{up_to, insert_due, insert_answer, inserted, remove_answer}
use Rattle.theory.specs.list.Copies.{copies_eq, copies_other}

-- ---- one copy more, unless c are held
pub up_to_by : (P : List ℕ → Type 0) (c f : ℕ) (l : List ℕ) → (c ≤ copies f l → P l) → (copies f l < c → P (more f l)) → P (up_to c f l)
unfolding up_to
up_to_by P c f l a b = choose_by P (dec_le c (copies f l)) a (λ z. b (omega arith))

pub up_to_enough : (c f : ℕ) (l : List ℕ) → c ≤ copies f l → up_to c f l ≡ l
unfolding up_to
up_to_enough c f l h = choose_yes (dec_le c (copies f l)) l (more f l) h

pub up_to_more : (c f : ℕ) (l : List ℕ) → copies f l < c → up_to c f l ≡ more f l
unfolding up_to
up_to_more c f l h = choose_no (dec_le c (copies f l)) l (more f l) (λ z. omega arith)

-- ---- insert
module _ (capacity most f : ℕ) (l : List ℕ) where
  -- enough copies are held
  module _ (h : most ≤ copies f l) where
    pub enough_due : insert_due capacity most f l ≡ 0
    unfolding insert_due
    enough_due = choose_yes (dec_le most (copies f l)) 0 _ h

    pub enough_answer : insert_answer most f l ≡ most
    unfolding insert_answer
    enough_answer = omega arith

    pub enough_held : inserted most f l ≡ l
    unfolding inserted
    enough_held = up_to_enough most f l h

  -- a copy more is due
  module _ (h : copies f l < most) where
    asked : insert_due capacity most f l ≡ choose (dec_le capacity (length l)) 7 0
    unfolding insert_due
    asked = choose_no (dec_le most (copies f l)) 0 _ (λ z. omega arith)

    pub full_due_lem : capacity ≤ length l → insert_due capacity most f l ≡ 7
    full_due_lem b = asked ∙ choose_yes (dec_le capacity (length l)) 7 0 b

    pub more_answer : insert_answer most f l ≡ copies f l
    unfolding insert_answer
    more_answer = omega arith

    pub more_held : inserted most f l ≡ more f l
    unfolding inserted
    more_held = up_to_more most f l h

  -- there is room
  pub room_due : length l < capacity → insert_due capacity most f l ≡ 0
  unfolding insert_due
  room_due b =
      choose_by (λ z. z ≡ 0) (dec_le most (copies f l)) (λ _. refl) (λ _. choose_no (dec_le capacity (length l)) 7 0 (λ z. omega arith))

  -- where 7 is not due, enough copies are held or there is room
  pub due_none : insert_due capacity most f l ≡ 0 → (inserted most f l ≡ l) ⊎ ((inserted most f l ≡ more f l) × (length l < capacity))
  due_none e = go (dec_le most (copies f l)) (dec_le capacity (length l))
    where
      go : Dec (most ≤ copies f l) → Dec (capacity ≤ length l) → (inserted most f l ≡ l) ⊎ ((inserted most f l ≡ more f l) × (length l < capacity))
      go (yes h) d = inl (enough_held h)
      go (no h) (yes b) = absurd (omega (arith, full_due_lem (omega arith) b))
      go (no h) (no b) = inr (more_held (omega arith), omega arith)

  -- where a number is due, it is 7: a copy more is due and there is no room
  pub due_some : 0 < insert_due capacity most f l → (insert_due capacity most f l ≡ 7) × (copies f l < most) × (capacity ≤ length l)
  due_some e = go (dec_le most (copies f l)) (dec_le capacity (length l))
    where
      go : Dec (most ≤ copies f l) → Dec (capacity ≤ length l) → (insert_due capacity most f l ≡ 7) × (copies f l < most) × (capacity ≤ length l)
      go (yes h) d = absurd (omega (arith, enough_due h))
      go (no h) (yes b) = (full_due_lem (omega arith) b, omega arith, b)
      go (no h) (no b) = absurd (omega (arith, room_due (omega arith)))

-- ---- remove
pub absent_answer : (f : ℕ) (l : List ℕ) → copies f l ≡ 0 → remove_answer f l ≡ 0
unfolding remove_answer
absent_answer f l e = omega arith

pub held_answer : (f : ℕ) (l : List ℕ) → 0 < copies f l → remove_answer f l ≡ 1
unfolding remove_answer
held_answer f l h = omega arith

-- nothing goes where it is not held
pub fewer_absent : (f : ℕ) (l : List ℕ) → copies f l ≡ 0 → fewer f l ≡ l
unfolding fewer
fewer_absent f [] e = refl
fewer_absent f (g ∷ l) e = go (ℕ_discrete g f) (fewer_absent f l)
  where
    go : Dec (g ≡ f) → (copies f l ≡ 0 → fewer f l ≡ l) → fewer f (g ∷ l) ≡ g ∷ l
    go (yes z) ih = absurd (omega (arith, copies_eq f g l z))
    go (no z) ih = choose_no (ℕ_discrete g f) l _ z ∙ ap (λ (k : List ℕ). g ∷ k) (ih (omega (arith, copies_other f g l z)))
