-- Every record that an export gives back, with an answer and with a refusal, is of the family of the record given; of a fresh filter, of the family asked for. Assumes nothing.
use Rattle.std.specs.Prelude.{ℕ, ◌≡◌, refl, List, Option, Some, None, Result, Ok, Err}
use Rattle.std.proofs.Common.{ap, ◌∙◌}
use Rattle.layout.specs.declared.numbers.Numbers.{Numbers}
use Rattle.layout.specs.declared.refusal.Refusal.{Refusal}
use Rattle.layout.specs.Records.{OfFamily}
use Rattle.layout.specs.Fresh.{MadeAs}
use Rattle.writing.specs.Writing.{Insert, InsertQuick, Remove, RemoveQuick}
use Rattle.growth.specs.declared.spare.Placed.{Placed}
use Rattle.growth.specs.declared.spare.Placed.TheVariants.{InOld, InSpare}
use Rattle.growth.specs.Rebuilding.{Grows}
use Rattle.growth.specs.Merging.{Merges}
use Rattle.growth.specs.Spare.{InsertSpare, InsertSpareQuick}
use Rattle.growth.specs.Family.{AnswerFamily, fresh_family, insert_family, insert_quick_family, remove_family, remove_quick_family, grown_family, insert_spare_family, insert_spare_quick_family}
use Rattle.growth.specs.Merged.{merged_family}
use Rattle.capi.specs.Shown.{Shown}
use Rattle.capi.specs.Planning.{fresh_of, FreshOutcome}
use Rattle.capi.specs.Writing.{inserted_of, InsertOutcome, InsertQuickOutcome, removed_of, RemoveOutcome, RemoveQuickOutcome}
use Rattle.capi.specs.Growing.{rebuilt_of, GrowOutcome, placed_of, InsertSpareOutcome, InsertSpareQuickOutcome}
use Rattle.capi.specs.Merging.{MergeOutcome}
use Rattle.capi.specs.declared.planning.Changed.{Changed}
use Rattle.capi.specs.declared.growing.SpareAnswer.{SpareAnswer}

-- by what an answer inside says of its record
changed_family : {A : Type 0} (Right : A → Type 0) (plain : A → Changed) (family : ℕ) → ((x : A) → Right x → (plain x).numbers.family ≡ family) → (a : Changed) → Shown Right plain a → a.numbers.family ≡ family
changed_family Right plain family of a x = ap (λ (c : Changed). c.numbers.family) x.is ∙ of x.answer x.right

pub strumblay_fresh_family : (s : List ℕ) (q r mx family : ℕ) (a : Changed) (t : List ℕ) → FreshOutcome s q r mx family a t → a.numbers.family ≡ family
strumblay_fresh_family s q r mx family a t = changed_family _ (fresh_of q r mx family) family go a
  where
    go : (x : Result Numbers Refusal) → MadeAs s q r mx family x t → (fresh_of q r mx family x).numbers.family ≡ family
    go (Ok n) p = fresh_family s q r mx family n t p
    go (Err k) p = refl

-- ---- by cases: a refusal, and a remove that finds nothing, give back the record given
module _ (n : Numbers) where
  inserted_of_lem : (Right : Result (ℕ × Numbers) Refusal → Type 0) → ((m : ℕ) (n' : Numbers) → Right (Ok (m, n')) → OfFamily n n') → (x : Result (ℕ × Numbers) Refusal) → Right x → OfFamily n (inserted_of n x).numbers
  inserted_of_lem Right of (Ok a) p = of a.0 a.1 p
  inserted_of_lem Right of (Err k) p = refl

  removed_of_lem : (Right : Result (Option Numbers) Refusal → Type 0) → ((n' : Numbers) → Right (Ok (Some n')) → OfFamily n n') → (x : Result (Option Numbers) Refusal) → Right x → OfFamily n (removed_of n x).numbers
  removed_of_lem Right of (Ok (Some n')) p = of n' p
  removed_of_lem Right of (Ok None) p = refl
  removed_of_lem Right of (Err k) p = refl

  rebuilt_of_lem : (Right : Result Numbers Refusal → Type 0) → ((g : Numbers) → Right (Ok g) → OfFamily n g) → (x : Result Numbers Refusal) → Right x → OfFamily n (rebuilt_of n x).numbers
  rebuilt_of_lem Right of (Ok g) p = of g p
  rebuilt_of_lem Right of (Err k) p = refl

  placed_of_lem : (x : Result Placed Refusal) → AnswerFamily n x → OfFamily n (placed_of n x).numbers
  placed_of_lem (Ok (InOld m n')) h = h
  placed_of_lem (Ok (InSpare m n')) h = h
  placed_of_lem (Err k) h = refl

  spare_family : (Right : Result Placed Refusal → Type 0) → ((x : Result Placed Refusal) → Right x → AnswerFamily n x) → (a : SpareAnswer) → Shown Right (placed_of n) a → OfFamily n a.numbers
  spare_family Right of a x = ap (λ (c : SpareAnswer). c.numbers.family) x.is ∙ placed_of_lem x.answer (of x.answer x.right)

-- ---- the exports
module _ (n : Numbers) (s : List ℕ) where
  module _ (hash : ℕ) (t : List ℕ) where
    pub strumblay_insert_family : (most : ℕ) (a : Changed) → InsertOutcome n hash most s a t → OfFamily n a.numbers
    strumblay_insert_family most =
        let Right : Result (ℕ × Numbers) Refusal → Type 0 = λ x. Insert n hash most s x t in
        changed_family Right (inserted_of n) n.family (inserted_of_lem n Right (λ m n'. insert_family n hash most s m n' t))

    pub strumblay_insert_quick_family : (most : ℕ) (a : Changed) → InsertQuickOutcome n hash most s a t → OfFamily n a.numbers
    strumblay_insert_quick_family most =
        let Right : Result (ℕ × Numbers) Refusal → Type 0 = λ x. InsertQuick n hash most s x t in
        changed_family Right (inserted_of n) n.family (inserted_of_lem n Right (λ m n'. insert_quick_family n hash most s m n' t))

    pub strumblay_remove_family : (a : Changed) → RemoveOutcome n hash s a t → OfFamily n a.numbers
    strumblay_remove_family =
        let Right : Result (Option Numbers) Refusal → Type 0 = λ x. Remove n hash s x t in
        changed_family Right (removed_of n) n.family (removed_of_lem n Right (λ n'. remove_family n hash s n' t))

    pub strumblay_remove_quick_family : (a : Changed) → RemoveQuickOutcome n hash s a t → OfFamily n a.numbers
    strumblay_remove_quick_family =
        let Right : Result (Option Numbers) Refusal → Type 0 = λ x. RemoveQuick n hash s x t in
        changed_family Right (removed_of n) n.family (removed_of_lem n Right (λ n'. remove_quick_family n hash s n' t))

  module _ (d t : List ℕ) where
    pub strumblay_grow_family : (a : Changed) → GrowOutcome n s d a t → OfFamily n a.numbers
    strumblay_grow_family =
        let Right : Result Numbers Refusal → Type 0 = λ x. Grows n s d x t in
        changed_family Right (rebuilt_of n) n.family (rebuilt_of_lem n Right (λ g. grown_family n s d g t))

    pub strumblay_merge_family : (m : Numbers) (o : List ℕ) (keep : ℕ) (a : Changed) → MergeOutcome n s m o keep d a t → OfFamily n a.numbers
    strumblay_merge_family m o keep =
        let Right : Result Numbers Refusal → Type 0 = λ x. Merges n s m o keep d x t in
        changed_family Right (rebuilt_of n) n.family (rebuilt_of_lem n Right (λ x p. (merged_family n s m o keep d x t p).0))

  module _ (hash most : ℕ) (d t e : List ℕ) where
    pub strumblay_insert_spare_family : (a : SpareAnswer) → InsertSpareOutcome n hash most s d a t e → OfFamily n a.numbers
    strumblay_insert_spare_family = spare_family n (λ x. InsertSpare n hash most s d x t e) (insert_spare_family n s d hash most t e)

    pub strumblay_insert_spare_quick_family : (a : SpareAnswer) → InsertSpareQuickOutcome n hash most s d a t e → OfFamily n a.numbers
    strumblay_insert_spare_quick_family = spare_family n (λ x. InsertSpareQuick n hash most s d x t e) (insert_spare_quick_family n s d hash most t e)
