-- No writer makes a filter with len above capacity, whatever it was lent: a checked call that is not refused worked on sound filters and leaves a sound one, and of a quick one it is
-- promised for every buffer. A refusal gives no record, nor does a remove that finds nothing: there is nothing to say of them. Assumes nothing.
use Rattle.std.specs.Prelude.{Some, Result, Ok, Err, ℕ, ◌≡◌, List}
use Rattle.std.proofs.Common.{arith}
use Rattle.theory.specs.Answer.{refuses}
use Rattle.theory.specs.refusals.Demands.{not_refused}
use Rattle.layout.specs.declared.numbers.Numbers.{Numbers}
use Rattle.layout.specs.declared.refusal.Refusal.{Refusal}
use Rattle.layout.specs.Records.{Within}
use Rattle.layout.specs.Fresh.{MadeAs, made_sound}
use Rattle.layout.specs.Judging.{sound_within, keeps_within}
use Rattle.writing.specs.Writing.{Insert, InsertQuick, Remove, RemoveQuick}
use Rattle.writing.specs.Kept.{insert_sound, remove_sound}
use Rattle.growth.specs.declared.spare.Placed.{Placed}
use Rattle.growth.specs.declared.spare.Placed.TheVariants.{InOld, InSpare}
use Rattle.growth.specs.Says.{placed_says}
use Rattle.growth.specs.Rebuilding.{grown_to, Grows}
use Rattle.growth.specs.Merging.{Merges}
use Rattle.growth.specs.Spare.{PlacedWithin, InsertSpare, InsertSpareQuick}
use Rattle.growth.specs.Kept.{SoundIn, grown_sound, insert_spare_sound}
use Rattle.growth.specs.Merged.{merged_sound}

pub fresh_within : (s : List ℕ) (q r mx family : ℕ) (n : Numbers) (t : List ℕ) → MadeAs s q r mx family (Ok n) t → Within n
fresh_within s q r mx family n t p = sound_within n t (made_sound s q r mx family n t p).0

-- ---- insert and remove
module _ (n : Numbers) (hash most : ℕ) (s : List ℕ) (m : ℕ) (n' : Numbers) (t : List ℕ) where
  pub insert_within : Insert n hash most s (Ok (m, n')) t → Within n'
  insert_within p = sound_within n' t (insert_sound n hash most s m n' t p)

  pub insert_quick_within : InsertQuick n hash most s (Ok (m, n')) t → Within n'
  insert_quick_within p = keeps_within n n' p.other.2

module _ (n : Numbers) (hash : ℕ) (s : List ℕ) (n' : Numbers) (t : List ℕ) where
  pub remove_within : Remove n hash s (Ok (Some n')) t → Within n'
  remove_within p = sound_within n' t (remove_sound n hash s n' t p)

  pub remove_quick_within : RemoveQuick n hash s (Ok (Some n')) t → Within n'
  remove_quick_within p = keeps_within n n' p.other.1

-- ---- growth and merge
pub grown_within : (n : Numbers) (s d : List ℕ) (g : Numbers) (t : List ℕ) → Grows n s d (Ok g) t → Within g
grown_within n s d g t p =
    let y = not_refused _ _ _ _ s _ _ p (λ k z. let x : ◌≡◌ {A = ℕ} 0 1 = cc z.0 in omega arith) in
    sound_within g t (grown_sound n g s d t y.0 p)

pub merged_within : (n : Numbers) (s : List ℕ) (m : Numbers) (o : List ℕ) (keep : ℕ) (d : List ℕ) (x : Numbers) (t : List ℕ) → Merges n s m o keep d (Ok x) t → Within x
merged_within n s m o keep d x t p = sound_within x t (merged_sound n s m o keep d x t p)

-- ---- both inserts with a spare: the record that the answer gives, wherever the filter is then
abbrev pub AnswerWithin : Result Placed Refusal → Type 0
AnswerWithin (Ok (InOld m n')) = Within n'
AnswerWithin (Ok (InSpare m n')) = Within n'
AnswerWithin (Err k) = Unit {0}

placed_within : (n : Numbers) (t e : List ℕ) (a : Result Placed Refusal) → SoundIn n a t e → AnswerWithin a
placed_within n t e (Ok (InOld m n')) y = sound_within n' t y
placed_within n t e (Ok (InSpare m n')) y = sound_within n' e y
placed_within n t e (Err k) y = tt

kept_within : (n : Numbers) (s : List ℕ) (a : Result Placed Refusal) → PlacedWithin n s a → AnswerWithin a
kept_within n s (Ok (InOld m n')) k = keeps_within n n' k
kept_within n s (Ok (InSpare m n')) k = keeps_within (grown_to n n.len) n' k.1
kept_within n s (Err k) w = tt

module _ (n : Numbers) (s d : List ℕ) (hash most : ℕ) (t e : List ℕ) where
  answered_within : (a : Result Placed Refusal) → ((k : ℕ) → placed_says a ≡ refuses k → ⊥) → InsertSpare n hash most s d a t e → AnswerWithin a
  answered_within a never p =
      let y = not_refused _ _ _ _ s _ _ p (λ k z. never k z.0) in
      placed_within n t e a (insert_spare_sound n s d y.0 hash most a t e p)

  pub insert_spare_within : (a : Result Placed Refusal) → InsertSpare n hash most s d a t e → AnswerWithin a
  insert_spare_within (Ok (InOld m n')) = answered_within (Ok (InOld m n')) (λ k z. let x : ◌≡◌ {A = ℕ} 0 1 = cc in omega arith)
  insert_spare_within (Ok (InSpare m n')) = answered_within (Ok (InSpare m n')) (λ k z. let x : ◌≡◌ {A = ℕ} 0 1 = cc in omega arith)
  insert_spare_within (Err k) = λ _. tt

  pub insert_spare_quick_within : (a : Result Placed Refusal) → InsertSpareQuick n hash most s d a t e → AnswerWithin a
  insert_spare_quick_within a p = kept_within n s a p.other.within
