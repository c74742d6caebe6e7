-- Every record that a public call gives is of the family that it was given, whatever it was lent; that of a merge is in Merged. A refusal gives no record, nor does a remove that finds
-- nothing: there is nothing to say of them. Assumes nothing.
use Rattle.std.specs.Prelude.{Some, Result, Ok, Err, ℕ, ◌<◌, ◌≡◌, refl, ◌⊎◌, List, length}
use Rattle.std.proofs.Common.{sym, ap, subst, ◌∙◌, inl, inr, arith, eq-zero-or-pos}
use Rattle.theory.specs.Answer.{gives, refuses, values}
use Rattle.theory.specs.Changing.{Rule}
use Rattle.theory.specs.refusals.Demands.{not_refused}
use Rattle.layout.specs.declared.numbers.Numbers.{Numbers}
use Rattle.layout.specs.declared.refusal.Refusal.{Refusal}
use Rattle.layout.specs.Records.{OfFamily, Keeps, Changed, changed}
use Rattle.layout.specs.Fresh.{MadeAs}
use Rattle.layout.specs.Outcomes.{leaves_given}
use Rattle.writing.specs.Writing.{TurnsOn, inserting, removing, Insert, InsertQuick, Remove, RemoveQuick}
use Rattle.growth.specs.declared.spare.Placed.{Placed}
use Rattle.growth.specs.declared.spare.Placed.TheVariants.{InOld, InSpare}
use Rattle.growth.specs.Says.{PlacedIn, placed_as, placed_says, refused_is}
use Rattle.growth.specs.Rebuilding.{grown_to, Grows, grow_due}
use Rattle.growth.specs.Spare.{Places, PlacedWithin, InsertSpare, InsertSpareQuick}

keeps_family : (n n' : Numbers) → Keeps n n' → OfFamily n n'
keeps_family n n' k = ap (λ (x : Numbers). x.family) k.rest

pub fresh_family : (s : List ℕ) (q r mx family : ℕ) (n : Numbers) (t : List ℕ) → MadeAs s q r mx family (Ok n) t → n.family ≡ family
fresh_family s q r mx family n t p = ap (λ (x : Numbers). x.family) p.1

-- ---- insert and remove
turned_family : (n : Numbers) (rule : Rule) (s : List ℕ) (c : Changed) (t : List ℕ) → TurnsOn n rule s (gives c) t → OfFamily n c.numbers
turned_family n rule s c t p =
    let y = not_refused _ _ _ _ s _ _ p (λ k z. let x : ◌≡◌ {A = ℕ} 0 1 = cc z.0 in omega arith) in
    ap (λ (x : Changed). x.numbers.family) (leaves_given _ _ n (rule.held y.0.held) s c t y.1).1

module _ (n : Numbers) (hash most : ℕ) (s : List ℕ) (m : ℕ) (n' : Numbers) (t : List ℕ) where
  pub insert_family : Insert n hash most s (Ok (m, n')) t → OfFamily n n'
  insert_family = turned_family n (inserting n hash most) s (changed m n') t

  pub insert_quick_family : InsertQuick n hash most s (Ok (m, n')) t → OfFamily n n'
  insert_quick_family p = keeps_family n n' p.other.2

module _ (n : Numbers) (hash : ℕ) (s : List ℕ) (n' : Numbers) (t : List ℕ) where
  pub remove_family : Remove n hash s (Ok (Some n')) t → OfFamily n n'
  remove_family = turned_family n (removing n hash) s (changed 1 n') t

  pub remove_quick_family : RemoveQuick n hash s (Ok (Some n')) t → OfFamily n n'
  remove_quick_family p = keeps_family n n' p.other.1

-- ---- growth
pub grown_family : (n : Numbers) (s d : List ℕ) (g : Numbers) (t : List ℕ) → Grows n s d (Ok g) t → OfFamily n g
grown_family n s d g t p =
    let y = not_refused _ _ _ _ s _ _ p (λ k z. let x : ◌≡◌ {A = ℕ} 0 1 = cc z.0 in omega arith) in
    ap (λ (x : Numbers). x.family) (leaves_given _ _ (grown_to n (length y.0.held)) y.0.held d g t y.1).1

-- ---- both inserts with a spare: the record that the answer gives, wherever the filter is then
abbrev pub AnswerFamily : Numbers → Result Placed Refusal → Type 0
AnswerFamily n (Ok (InOld m n')) = OfFamily n n'
AnswerFamily n (Ok (InSpare m n')) = OfFamily n n'
AnswerFamily n (Err k) = Unit {0}

said_family : (n : Numbers) (a : Result Placed Refusal) (v : PlacedIn) → placed_says a ≡ gives v → OfFamily n v.numbers → AnswerFamily n a
said_family n (Ok (InOld m n')) v e h = ap (λ z. (values v z).numbers.family) e ∙ h
said_family n (Ok (InSpare m n')) v e h = ap (λ z. (values v z).numbers.family) e ∙ h
said_family n (Err k) v e h = tt

kept_family : (n : Numbers) (s : List ℕ) (a : Result Placed Refusal) → PlacedWithin n s a → AnswerFamily n a
kept_family n s (Ok (InOld m n')) k = keeps_family n n' k
kept_family n s (Ok (InSpare m n')) k = keeps_family (grown_to n n.len) n' k.1
kept_family n s (Err k) w = tt

module _ (n : Numbers) (s d : List ℕ) (hash most : ℕ) (t e : List ℕ) where
  placed_family : (l : List ℕ) (a : Result Placed Refusal) → Places n (inserting n hash most) l s d (placed_says a) t e → AnswerFamily n a
  placed_family l a p = go (eq-zero-or-pos ((inserting n hash most).due l)) (eq-zero-or-pos (grow_due n (length d)))
    where
      go : ((inserting n hash most).due l ≡ 0) ⊎ (0 < (inserting n hash most).due l) → (grow_due n (length d) ≡ 0) ⊎ (0 < grow_due n (length d)) → AnswerFamily n a
      go (inl b) z = said_family n a _ (p.old b).0 refl
      go (inr b) (inl z) = said_family n a _ ((p.full b).1.done z).0 refl
      go (inr b) (inr z) = subst (AnswerFamily n) (sym (refused_is placed_as a _ ((p.full b).1.refused z).0).1) tt

  answered_family : (a : Result Placed Refusal) → ((k : ℕ) → placed_says a ≡ refuses k → ⊥) → InsertSpare n hash most s d a t e → AnswerFamily n a
  answered_family a never p =
      let y = not_refused _ _ _ _ s _ _ p (λ k z. never k z.0) in
      placed_family y.0.held a y.1

  pub insert_spare_family : (a : Result Placed Refusal) → InsertSpare n hash most s d a t e → AnswerFamily n a
  insert_spare_family (Ok (InOld m n')) = answered_family (Ok (InOld m n')) (λ k z. let x : ◌≡◌ {A = ℕ} 0 1 = cc in omega arith)
  insert_spare_family (Ok (InSpare m n')) = answered_family (Ok (InSpare m n')) (λ k z. let x : ◌≡◌ {A = ℕ} 0 1 = cc in omega arith)
  insert_spare_family (Err k) = λ _. tt

  pub insert_spare_quick_family : (a : Result Placed Refusal) → InsertSpareQuick n hash most s d a t e → AnswerFamily n a
  insert_spare_quick_family a p = kept_family n s a p.other.within
