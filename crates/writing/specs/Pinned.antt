-- What the promises of insert and remove pin down: any two outcomes (the answer with its record, and every lent byte) that keep the promise coincide. Checked calls: for all inputs.
-- Quick calls: where a number 1 to 5 is due or the buffer is sound, and there they equal the checked ones; an insert with max_count 0 also on every
-- other buffer, though there the checked one gives 6. What is left open is in docs/EXCEPTIONS.md. Assumes nothing.
use Rattle.std.specs.Prelude.{Option, Result, ℕ, ◌<◌, ◌≡◌, ◌⊎◌, List}
use Rattle.std.proofs.Common.{inl, inr, eq-zero-or-pos}
use Rattle.theory.specs.Answer.{Answer, refuses}
use Rattle.theory.specs.Changing.{Rule}
use Rattle.theory.specs.refusals.Demands.{checked_one, quick_one, quick_checked}
use Rattle.layout.specs.declared.numbers.Numbers.{Numbers}
use Rattle.layout.specs.declared.refusal.Refusal.{Refusal}
use Rattle.layout.specs.Records.{Changed, lowest_due}
use Rattle.layout.specs.Outcomes.{Settled, alike, apart, leaves_one}
use Rattle.writing.specs.Says.{inserted_says, inserted_tells, removed_says, removed_tells}
use Rattle.writing.specs.Writing.{Turns, TurnsOn, TurnsQuick, InsertLeaves, RemoveLeaves, inserting, removing, Insert, InsertQuick, Remove, RemoveQuick}

-- ---- a change by a rule: an outcome is the answer, which is told by what it says, and the buffer afterwards
module _ {E : Type 0} (says : E → Answer Changed) (tells : (a b : E) → says a ≡ says b → a ≡ b) (n : Numbers) (rule : Rule) (s : List ℕ) where
  abbrev No : ℕ → E × List ℕ → Type 0
  No k x = (says x.0 ≡ refuses k) × (x.1 ≡ s)

  abbrev Right : List ℕ → E × List ℕ → Type 0
  Right l x = Turns n rule l s (says x.0) x.1

  no_one : (k : ℕ) (x y : E × List ℕ) → No k x → No k y → x ≡ y
  no_one k = alike says tells

  right_one : (l : List ℕ) (x y : E × List ℕ) → Right l x → Right l y → x ≡ y
  right_one l = leaves_one says tells _ _ n (rule.held l) s

  module _ (a b : E) (t u : List ℕ) where
    turn_pinned : TurnsOn n rule s (says a) t → TurnsOn n rule s (says b) u → (a ≡ b) × (t ≡ u)
    turn_pinned p q = apart (a, t) (b, u) (checked_one No Right _ _ _ _ s no_one (λ l _. right_one l) (a, t) (b, u) p q)

    module _ (left : E × List ℕ → Type 0) (d : Settled n s) where
      quick_turn_pinned : TurnsQuick n rule s (says a) t (left (a, t)) → TurnsQuick n rule s (says b) u (left (b, u)) → (a ≡ b) × (t ≡ u)
      quick_turn_pinned p q = apart (a, t) (b, u) (quick_one No Right _ _ _ _ s no_one (λ l _. right_one l) left d (a, t) (b, u) p q)

      turn_quick_checked : TurnsQuick n rule s (says a) t (left (a, t)) → TurnsOn n rule s (says b) u → (a ≡ b) × (t ≡ u)
      turn_quick_checked p q = apart (a, t) (b, u) (quick_checked No Right _ _ _ _ s no_one (λ l _. right_one l) left d (a, t) (b, u) p q)

-- ---- insert
-- where a quick insert leaves nothing open
abbrev pub InsertSettled : Numbers → ℕ → List ℕ → Type 0
InsertSettled n most s = Settled n s ⊎ (most ≡ 0)

module _ (n : Numbers) (hash most : ℕ) (s : List ℕ) (a b : Result (ℕ × Numbers) Refusal) (t u : List ℕ) where
  pub insert_fingerprint_counting_pinned : Insert n hash most s a t → Insert n hash most s b u → (a ≡ b) × (t ≡ u)
  insert_fingerprint_counting_pinned = turn_pinned inserted_says inserted_tells n (inserting n hash most) s a b t u

  pub insert_fingerprint_counting_quick_pinned : InsertSettled n most s → InsertQuick n hash most s a t → InsertQuick n hash most s b u → (a ≡ b) × (t ≡ u)
  insert_fingerprint_counting_quick_pinned (inl d) p q =
      quick_turn_pinned inserted_says inserted_tells n (inserting n hash most) s a b t u (λ x. InsertLeaves n most s x.0 x.1) d p q
  insert_fingerprint_counting_quick_pinned (inr z) p q = apart (a, t) (b, u) (go (eq-zero-or-pos (lowest_due n s)))
    where
      go : (lowest_due n s ≡ 0) ⊎ (0 < lowest_due n s) → ◌≡◌ {A = Result (ℕ × Numbers) Refusal × List ℕ} (a, t) (b, u)
      go (inl c) = alike inserted_says inserted_tells (a, t) (b, u) (p.other.3 z c) (q.other.3 z c)
      go (inr h) = alike inserted_says inserted_tells (a, t) (b, u) (p.early h) (q.early h)

  -- on every sound buffer, and where a number 1 to 5 is due, quick equals checked
  pub insert_quick_checked : Settled n s → InsertQuick n hash most s a t → Insert n hash most s b u → (a ≡ b) × (t ≡ u)
  insert_quick_checked = turn_quick_checked inserted_says inserted_tells n (inserting n hash most) s a b t u (λ x. InsertLeaves n most s x.0 x.1)

-- ---- remove
module _ (n : Numbers) (hash : ℕ) (s : List ℕ) (a b : Result (Option Numbers) Refusal) (t u : List ℕ) where
  pub remove_fingerprint_pinned : Remove n hash s a t → Remove n hash s b u → (a ≡ b) × (t ≡ u)
  remove_fingerprint_pinned = turn_pinned (removed_says n) (removed_tells n) n (removing n hash) s a b t u

  pub remove_fingerprint_quick_pinned : Settled n s → RemoveQuick n hash s a t → RemoveQuick n hash s b u → (a ≡ b) × (t ≡ u)
  remove_fingerprint_quick_pinned = quick_turn_pinned (removed_says n) (removed_tells n) n (removing n hash) s a b t u (λ x. RemoveLeaves n s x.0 x.1)

  pub remove_quick_checked : Settled n s → RemoveQuick n hash s a t → Remove n hash s b u → (a ≡ b) × (t ≡ u)
  remove_quick_checked = turn_quick_checked (removed_says n) (removed_tells n) n (removing n hash) s a b t u (λ x. RemoveLeaves n s x.0 x.1)
