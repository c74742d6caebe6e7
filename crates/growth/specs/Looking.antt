-- An insert with max_count 0 looks and does not add: where it is not refused it answers 0 and gives the record that it was given, at capacity too, and in either case every byte stays,
-- those of a spare as well. A checked one is refused 1 to 6 and no other number, a quick one 1 to 5 and no other: it answers 0 on a damaged buffer too. Assumes nothing.
use Rattle.std.specs.Prelude.{Result, ℕ, ◌<◌, ◌≡◌, refl, List, length}
use Rattle.std.proofs.Common.{sym, ap, ◌∙◌, arith}
use Rattle.theory.specs.Answer.{gives, refuses}
use Rattle.theory.specs.Shape.{capacity}
use Rattle.theory.specs.Changing.{insert_due, insert_answer, inserted}
use Rattle.theory.specs.Image.{image}
use Rattle.theory.specs.list.RuleCases.{enough_due, enough_answer, enough_held}
use Rattle.layout.specs.declared.numbers.Numbers.{Numbers}
use Rattle.layout.specs.declared.refusal.Refusal.{Refusal}
use Rattle.layout.specs.Records.{with_len, changed, lowest_due, HoldsOf, fingerprint_of, CheckedOn}
use Rattle.writing.specs.Says.{inserted_says}
use Rattle.writing.specs.Writing.{Untouched, Insert, InsertQuick}
use Rattle.growth.specs.declared.spare.Placed.{Placed}
use Rattle.growth.specs.Says.{placed_in, placed_says}
use Rattle.growth.specs.Spare.{BothUntouched, InsertSpare, InsertSpareQuick}

module _ (n : Numbers) (hash : ℕ) (s : List ℕ) where
  abbrev f : ℕ
  f = fingerprint_of n hash

  -- ---- the rule on a list l, and on a filter that holds it
  module _ (l : List ℕ) where
    nothing_due : insert_due (capacity n.qbits) 0 f l ≡ 0
    nothing_due = enough_due (capacity n.qbits) 0 f l (omega arith)

    answer_zero : insert_answer 0 f l ≡ 0
    answer_zero = enough_answer (capacity n.qbits) 0 f l (omega arith)

    held_same : inserted 0 f l ≡ l
    held_same = enough_held (capacity n.qbits) 0 f l (omega arith)

    same_len : HoldsOf n s l → length (inserted 0 f l) ≡ n.len
    same_len h = ap length held_same ∙ h.many

    same_bytes : HoldsOf n s l → image n.qbits n.rbits (inserted 0 f l) ≡ s
    same_bytes h = ap (image n.qbits n.rbits) held_same ∙ sym h.bytes

  -- ---- insert
  module _ (a : Result (ℕ × Numbers) Refusal) (t : List ℕ) where
    pub insert_looks : Insert n hash 0 s a t → CheckedOn n s (λ k. (inserted_says a ≡ refuses k) × (t ≡ s)) (λ _. Untouched n s a t)
    insert_looks p = record {
      early = p.early;
      damaged = p.damaged;
      sound = λ e l h.
          let r = (p.sound e l h).done (nothing_due l) in
          (r.0 ∙ (λ i. gives (changed (answer_zero l i) (with_len n (same_len l h i)))), r.1 ∙ same_bytes l h);
    }

    pub insert_quick_looks : InsertQuick n hash 0 s a t
        → (0 < lowest_due n s → (inserted_says a ≡ refuses (lowest_due n s)) × (t ≡ s)) × (lowest_due n s ≡ 0 → Untouched n s a t)
    insert_quick_looks p = (p.early, p.other.3 refl)

  -- ---- insert with a spare, d before and e afterwards
  module _ (d : List ℕ) (a : Result Placed Refusal) (t e : List ℕ) where
    pub insert_spare_looks : InsertSpare n hash 0 s d a t e
        → CheckedOn n s (λ k. (placed_says a ≡ refuses k) × (t ≡ s) × (e ≡ d)) (λ _. BothUntouched n s d a t e)
    insert_spare_looks p = record {
      early = p.early;
      damaged = p.damaged;
      sound = λ c l h.
          let r = (p.sound c l h).old (nothing_due l) in
          (r.0 ∙ (λ i. gives (placed_in (answer_zero l i) 0 (with_len n (same_len l h i)))), r.1 ∙ same_bytes l h, r.2);
    }

    pub insert_spare_quick_looks : InsertSpareQuick n hash 0 s d a t e
        → (0 < lowest_due n s → (placed_says a ≡ refuses (lowest_due n s)) × (t ≡ s) × (e ≡ d)) × (lowest_due n s ≡ 0 → BothUntouched n s d a t e)
    insert_spare_quick_looks p = (p.early, p.other.looks refl)
