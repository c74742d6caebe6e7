-- The promises of insert and remove (docs/RULES.md, "Insert" and "Remove").
use Rattle.std.specs.Prelude.{Option, Some, None, Result, Ok, Err, Bool, true, false, ℕ, ◌+◌, ◌-◌, ◌^◌, ◌<◌, ◌≡◌, refl, ◌⊎◌, List, length}
use Rattle.std.proofs.Common.{sym, ap, ◌∙◌, inl, inr, arith, eq-zero-or-pos, pow_pos}
use Rattle.theory.specs.Answer.{Answer, gives, refuses, values, number as answered}
use Rattle.theory.specs.Shape.{slots, capacity, blocks, bytes}
use Rattle.theory.specs.Holding.{copies, fewer}
use Rattle.theory.specs.Changing.{Rule, insert_rule, remove_rule, inserted, remove_answer}
use Rattle.theory.specs.Image.{image}
use Rattle.theory.specs.Sound.{last_eight}
use Rattle.theory.specs.number.Bytes.{Bytes, le}
use Rattle.theory.specs.images.Block.{tail_at}
use Rattle.theory.specs.images.ImageBytes.{image_tail}
use Rattle.theory.proofs.images.IsImage.{is_image}
use Rattle.theory.specs.images.Tail.{tail_bytes_lem}
use Rattle.theory.specs.writing.Removing.{fewer_length}
use Rattle.theory.specs.list.RuleCases.{absent_answer, held_answer, fewer_absent}
use Rattle.layout.specs.declared.numbers.Numbers.{Numbers}
use Rattle.layout.specs.declared.refusal.Refusal.{Refusal}
use Rattle.layout.specs.Refusals.{number}
use Rattle.layout.specs.Records.{shape_of, with_len, lowest_due, HoldsOf, Within, Keeps, fingerprint_of, CheckedOn, QuickOn, Leaves, Changed, changed}
use Rattle.writing.specs.declared.insert.Insertion.{Insertion}
use Rattle.writing.specs.declared.insert.Insertion.TheVariants as core
use Rattle.filter.specs.Asking.{holds_shows}
use Rattle.layout.specs.Judging.{clear_whole, clear_of, clear_within}
use Rattle.filter.specs.Lookup.{Shows}
use Rattle.writing.specs.Says.{inserted_says, removed_says}
use Rattle.writing.specs.Insert.{CoreAnswer, insertion_says, Below, InsertsCore}
use Rattle.writing.specs.Remove.{removal_says, RemovesCore}

-- a change in place by a rule, of a filter that holds l: a number is due, and record and buffer stay; or none is, and answer, len and buffer are the rule's
abbrev pub Turns : Numbers → Rule → List ℕ → List ℕ → Answer Changed → List ℕ → Type 0
Turns n rule l s a t = Leaves (rule.due l) (changed (rule.answer l) (with_len n (length (rule.held l)))) n (rule.held l) s a t

-- a checked change: a refusal returns its number alone; the buffer stays the same
abbrev pub TurnsOn : Numbers → Rule → List ℕ → Answer Changed → List ℕ → Type 0
TurnsOn n rule s a t = CheckedOn n s (λ k. (a ≡ refuses k) × (t ≡ s)) (λ l. Turns n rule l s a t)

abbrev pub TurnsQuick : Numbers → Rule → List ℕ → Answer Changed → List ℕ → Type 0 → Type 0
TurnsQuick n rule s a t left = QuickOn n s (λ k. (a ≡ refuses k) × (t ≡ s)) (λ l. Turns n rule l s a t) left

-- the rules for a record and a hash
abbrev pub inserting : Numbers → ℕ → ℕ → Rule
inserting n hash most = insert_rule (capacity n.qbits) most (fingerprint_of n hash)

abbrev pub removing : Numbers → ℕ → Rule
removing n hash = remove_rule (fingerprint_of n hash)

-- ---- insert
abbrev pub Insert : Numbers → ℕ → ℕ → List ℕ → Result (ℕ × Numbers) Refusal → List ℕ → Type 0
Insert n hash most s a t = TurnsOn n (inserting n hash most) s (inserted_says a) t

-- nothing is added: the answer is 0, the record is the one given, and every byte stays
abbrev pub Untouched : Numbers → List ℕ → Result (ℕ × Numbers) Refusal → List ℕ → Type 0
Untouched n s a t = (inserted_says a ≡ gives (changed 0 n)) × (t ≡ s)

-- on any buffer a quick writer keeps the length and the last eight bytes
pub record Inside (s t : List ℕ) : Type 0 where
  pub size : length t ≡ length s
  pub tail : last_eight t ≡ last_eight s

-- and a record that it gives is the one given with a len of at most capacity
abbrev pub ChangedWithin : Numbers → Answer Changed → Type 0
ChangedWithin n (gives c) = Keeps n c.numbers
ChangedWithin n (refuses k) = Unit {0}

-- a quick insert does both; one that is refused has changed nothing; and with max_count 0, where none of 1 to 5 is due, it answers 0 and everything stays as it was
abbrev pub InsertLeaves : Numbers → ℕ → List ℕ → Result (ℕ × Numbers) Refusal → List ℕ → Type 0
InsertLeaves n most s a t = Inside s t × ((k : ℕ) → inserted_says a ≡ refuses k → t ≡ s) × ChangedWithin n (inserted_says a) × (most ≡ 0 → lowest_due n s ≡ 0 → Untouched n s a t)

abbrev pub InsertQuick : Numbers → ℕ → ℕ → List ℕ → Result (ℕ × Numbers) Refusal → List ℕ → Type 0
InsertQuick n hash most s a t = TurnsQuick n (inserting n hash most) s (inserted_says a) t (InsertLeaves n most s a t)

-- ---- remove
abbrev pub Remove : Numbers → ℕ → List ℕ → Result (Option Numbers) Refusal → List ℕ → Type 0
Remove n hash s a t = TurnsOn n (removing n hash) s (removed_says n a) t

-- a quick remove does both
abbrev pub RemoveLeaves : Numbers → List ℕ → Result (Option Numbers) Refusal → List ℕ → Type 0
RemoveLeaves n s a t = Inside s t × ChangedWithin n (removed_says n a)

abbrev pub RemoveQuick : Numbers → ℕ → List ℕ → Result (Option Numbers) Refusal → List ℕ → Type 0
RemoveQuick n hash s a t = TurnsQuick n (removing n hash) s (removed_says n a) t (RemoveLeaves n s a t)

-- ---- how the code comes to it
pub record InsertWorked (n : Numbers) (hash most : ℕ) (s : List ℕ) (a : Result (ℕ × Numbers) Refusal) (t : List ℕ) : Type 0 where
  pub right : (l : List ℕ) → HoldsOf n s l → Turns n (inserting n hash most) l s (inserted_says a) t
  pub inside : InsertLeaves n most s a t

pub inside_same : (s : List ℕ) → Inside s s
inside_same s = record { size = refl; tail = refl }

-- a buffer that shows l, written inside one that was an image, is the image of l
module _ (n : Numbers) (s t : List ℕ) (e : lowest_due n s ≡ 0) (bs : Bytes s) (bt : Bytes t) (len : length t ≡ length s)
    (tail : tail_at n.rbits (blocks n.qbits) (le t) ≡ tail_at n.rbits (blocks n.qbits) (le s)) where
  size : length s ≡ bytes n.qbits n.rbits
  size = (clear_of n s e).size_is

  pub stays_inside : Inside s t
  stays_inside = record { size = len; tail = tail_bytes_lem n.qbits n.rbits s t bs bt size (len ∙ size) tail }

  pub shows_image : (l l' : List ℕ) → HoldsOf n s l → Shows (shape_of n) t l' → t ≡ image n.qbits n.rbits l'
  shows_image l l' h w =
      is_image n.qbits n.rbits (clear_of n s e).widths.low l' w.holding t bt (len ∙ size) w.image
      (tail ∙ ap (λ z. tail_at n.rbits (blocks n.qbits) (le z)) h.bytes ∙ image_tail n.qbits n.rbits l)

-- the answer of the core, with the record afterwards
abbrev pub inserted_from : Numbers → Result Insertion Refusal → Result (ℕ × Numbers) Refusal
inserted_from n (Ok (core.Enough c)) = Ok (c, n)
inserted_from n (Ok (core.Added m)) = Ok (m, with_len n (n.len + 1))
inserted_from n (Err e) = Err e

-- what it says, by what the core says
abbrev recorded : Numbers → Answer CoreAnswer → Answer Changed
recorded n (gives c) = gives (changed c.answer (with_len n c.len))
recorded n (refuses k) = refuses k

inserted_says_lem : (n : Numbers) (a : Result Insertion Refusal) → inserted_says (inserted_from n a) ≡ recorded n (insertion_says n.len a)
inserted_says_lem n (Ok (core.Enough c)) = refl
inserted_says_lem n (Ok (core.Added m)) = refl
inserted_says_lem n (Err e) = refl

refused_core : (n : Numbers) (a : Result Insertion Refusal) (k : ℕ) → inserted_says (inserted_from n a) ≡ refuses k → (e : Refusal) × (a ≡ Err e) × (number e ≡ k)
refused_core n (Ok (core.Enough c)) k e = let z : ◌≡◌ {A = ℕ} 0 1 = cc in absurd (omega arith)
refused_core n (Ok (core.Added m)) k e = let z : ◌≡◌ {A = ℕ} 0 1 = cc in absurd (omega arith)
refused_core n (Err j) k e = (j, refl, ap answered e)

inserted_within : (n : Numbers) → Within n → (a : Result Insertion Refusal) → Below (shape_of n) n.len a → ChangedWithin n (inserted_says (inserted_from n a))
inserted_within n w (Ok (core.Enough c)) below = record { rest = refl; within = w }
inserted_within n w (Ok (core.Added m)) below = record { rest = refl; within = omega (arith, below) }
inserted_within n w (Err e) below = tt

pub insert_worked : (n : Numbers) (hash most : ℕ) (s t : List ℕ) (a : Result Insertion Refusal) → lowest_due n s ≡ 0 → Bytes s → Bytes t → length t ≡ length s
    → InsertsCore (shape_of n) n.len hash most s a t → InsertWorked n hash most s (inserted_from n a) t
insert_worked n hash most s t a e bs bt len c = record {
  right = λ l h.
      let w = c.right l (holds_shows n s l (clear_whole n s e).widths h) h.many in
      record {
        refused = λ z. (inserted_says_lem n a ∙ ap (recorded n) (w.refused z).0, (w.refused z).1);
        done = λ z. (inserted_says_lem n a ∙ ap (recorded n) (w.done z).0, shows_image n s t e bs bt len c.tail l (inserted most (fingerprint_of n hash) l) h (w.done z).1);
      };
  inside = (
    stays_inside n s t e bs bt len c.tail,
    (λ k z.
        let r = refused_core n a k z in
        c.kept r.0 r.1),
    inserted_within n (clear_within n s e) a c.below,
    (λ z _. (ap (λ (x : Result Insertion Refusal). inserted_says (inserted_from n x)) (c.looks z).0, (c.looks z).1)),
  );
}

pub record RemoveWorked (n : Numbers) (hash : ℕ) (s : List ℕ) (a : Result (Option Numbers) Refusal) (t : List ℕ) : Type 0 where
  pub right : (l : List ℕ) → HoldsOf n s l → Turns n (removing n hash) l s (removed_says n a) t
  pub inside : RemoveLeaves n s a t

abbrev pub removed_from : Numbers → Result Bool Refusal → Result (Option Numbers) Refusal
removed_from n (Ok true) = Ok (Some (with_len n (n.len - 1)))
removed_from n (Ok false) = Ok None
removed_from n (Err e) = Err e

-- what it says, by what the core says
removed_absent : (n : Numbers) (a : Result Bool Refusal) → removal_says a ≡ gives 0 → removed_says n (removed_from n a) ≡ gives (changed 0 n)
removed_absent n (Ok true) e = absurd (omega (arith, ap (values 2) e))
removed_absent n (Ok false) e = refl
removed_absent n (Err k) e = absurd (omega (arith, ap (values 2) e))

removed_gone : (n : Numbers) (a : Result Bool Refusal) → removal_says a ≡ gives 1 → removed_says n (removed_from n a) ≡ gives (changed 1 (with_len n (n.len - 1)))
removed_gone n (Ok true) e = refl
removed_gone n (Ok false) e = absurd (omega (arith, ap (values 2) e))
removed_gone n (Err k) e = absurd (omega (arith, ap (values 2) e))

removed_says_lem : (n : Numbers) (s l : List ℕ) → HoldsOf n s l → (f : ℕ) (a : Result Bool Refusal) → removal_says a ≡ gives (remove_answer f l)
    → removed_says n (removed_from n a) ≡ gives (changed (remove_answer f l) (with_len n (length (fewer f l))))
removed_says_lem n s l h f a e = go (eq-zero-or-pos (copies f l))
  where
    told : {m len : ℕ} → remove_answer f l ≡ m → length (fewer f l) ≡ len → gives (changed m (with_len n len)) ≡ gives (changed (remove_answer f l) (with_len n (length (fewer f l))))
    told x y = λ i. gives (changed (sym x i) (with_len n (sym y i)))

    go : (copies f l ≡ 0) ⊎ (0 < copies f l) → removed_says n (removed_from n a) ≡ gives (changed (remove_answer f l) (with_len n (length (fewer f l))))
    go (inl c) = removed_absent n a (e ∙ ap gives (absent_answer f l c)) ∙ told (absent_answer f l c) (ap length (fewer_absent f l c) ∙ h.many)
    go (inr c) =
        removed_gone n a (e ∙ ap gives (held_answer f l c))
        ∙ told (held_answer f l c) (omega (arith, fewer_length (slots n.qbits) (2 ^ n.rbits) (pow_pos n.rbits) f l h.holding c, h.many))

removed_within : (n : Numbers) → Within n → (a : Result Bool Refusal) → ChangedWithin n (removed_says n (removed_from n a))
removed_within n w (Ok true) = record { rest = refl; within = omega (arith, w) }
removed_within n w (Ok false) = record { rest = refl; within = w }
removed_within n w (Err e) = tt

pub remove_worked : (n : Numbers) (hash : ℕ) (s t : List ℕ) (a : Result Bool Refusal) → lowest_due n s ≡ 0 → Bytes s → Bytes t → length t ≡ length s
    → RemovesCore (shape_of n) hash s a t → RemoveWorked n hash s (removed_from n a) t
remove_worked n hash s t a e bs bt len c = record {
  right = λ l h.
      let w = c.right l (holds_shows n s l (clear_whole n s e).widths h) in
      record {
        refused = λ z. absurd (omega arith);
        done = λ z. (removed_says_lem n s l h (fingerprint_of n hash) a w.says, shows_image n s t e bs bt len c.tail l (fewer (fingerprint_of n hash) l) h w.shows);
      };
  inside = (stays_inside n s t e bs bt len c.tail, removed_within n (clear_within n s e) a);
}
