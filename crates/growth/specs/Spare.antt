-- The promises of insert with a spare (docs/RULES.md, "Insert").
use Rattle.std.specs.Prelude.{Result, Ok, Err, ℕ, ◌+◌, ◌-◌, ◌<◌, ◌≡◌, refl, ◌⊎◌, ◌≢◌, List, length}
use Rattle.std.proofs.Common.{sym, ap, subst, ◌∙◌, inl, inr, arith, eq-zero-or-pos}
use Rattle.std.proofs.Math.Decide.{ℕ_discrete}
use Rattle.theory.specs.Answer.{Answer, gives, refuses, number as answered}
use Rattle.theory.specs.Shape.{capacity}
use Rattle.theory.specs.Changing.{Rule, insert_answer, inserted}
use Rattle.theory.specs.Image.{image}
use Rattle.theory.specs.list.RuleCases.{due_some, room_due}
use Rattle.theory.specs.refusals.ByNumber.{due_most}
use Rattle.theory.specs.refusals.SoundDecided.{sound_dec}
use Rattle.theory.specs.refusals.Demands.{not_refused}
use Rattle.layout.specs.declared.numbers.Numbers.{Numbers}
use Rattle.layout.specs.declared.refusal.Refusal.{Refusal}
use Rattle.layout.specs.declared.refusal.Refusal.TheVariants.{NoRoom}
use Rattle.layout.specs.Refusals.{number, number_tells}
use Rattle.layout.specs.Records.{with_len, Changed, lowest_due, SoundOf, HoldsOf, Keeps, fingerprint_of, CheckedOn, QuickOn, Leaves}
use Rattle.layout.specs.Outcomes.{leaves_given}
use Rattle.writing.specs.Says.{inserted_says}
use Rattle.writing.specs.Writing.{Turns, inserting, Insert, InsertQuick, Inside, ChangedWithin, InsertLeaves}
use Rattle.growth.specs.declared.spare.Placed.{Placed}
use Rattle.growth.specs.declared.spare.Placed.TheVariants.{InOld, InSpare}
use Rattle.growth.specs.Says.{PlacedIn, placed_in, placed_says}
use Rattle.growth.specs.Rebuilding.{grown_to, Grows, GrowsTo, grow_due}
use Rattle.growth.specs.Growing.{grows_room, grown_fingerprint, grown_clear, grown_holds, grown_room}

-- growth into the spare d, 7 and then 12, and the rule of insert there: e is the spare afterwards
abbrev pub Moves : Numbers → Rule → List ℕ → List ℕ → Answer PlacedIn → List ℕ → Type 0
Moves n rule l d a e =
    let after = grown_to n (length (rule.held l)) in
    Leaves (grow_due n (length d)) (placed_in (rule.answer l) 1 after) after (rule.held l) d a e

-- the rule of insert on the old buffer s, which is t afterwards; where 7 is due, and only then, the spare counts, and the old one is unchanged
pub record Places (n : Numbers) (rule : Rule) (l s d : List ℕ) (a : Answer PlacedIn) (t e : List ℕ) : Type 0 where
  pub old : rule.due l ≡ 0 → (a ≡ gives (placed_in (rule.answer l) 0 (with_len n (length (rule.held l))))) × (t ≡ image n.qbits n.rbits (rule.held l)) × (e ≡ d)
  pub full : 0 < rule.due l → (t ≡ s) × Moves n rule l d a e

-- a refusal returns its number alone; both buffers stay the same
abbrev pub InsertSpare : Numbers → ℕ → ℕ → List ℕ → List ℕ → Result Placed Refusal → List ℕ → List ℕ → Type 0
InsertSpare n hash most s d a t e =
    CheckedOn n s (λ k. (placed_says a ≡ refuses k) × (t ≡ s) × (e ≡ d)) (λ l. Places n (inserting n hash most) l s d (placed_says a) t e)

-- the record that an answer gives is the one given, or, where a sound filter grew, that of growth, with a len of at most capacity
abbrev pub PlacedWithin : Numbers → List ℕ → Result Placed Refusal → Type 0
PlacedWithin n s (Ok (InOld m n')) = Keeps n n'
PlacedWithin n s (Ok (InSpare m n')) = SoundOf n s × Keeps (grown_to n n.len) n'
PlacedWithin n s (Err k) = Unit {0}

-- nothing is added, and the old buffer counts: the answer is 0, the record is the one given, and every byte of both stays
abbrev pub BothUntouched : Numbers → List ℕ → List ℕ → Result Placed Refusal → List ℕ → List ℕ → Type 0
BothUntouched n s d a t e = (placed_says a ≡ gives (placed_in 0 0 n)) × (t ≡ s) × (e ≡ d)

-- on any buffer the quick form keeps the old one's length and last eight bytes, and the spare whole unless the old one is sound; what is refused has changed nothing; the record is as above;
-- and with max_count 0, where none of 1 to 5 is due, it answers 0 and everything stays as it was
pub record SpareLeaves (n : Numbers) (most : ℕ) (s d : List ℕ) (a : Result Placed Refusal) (t e : List ℕ) : Type 0 where
  pub inside : Inside s t
  pub whole : ¬ (SoundOf n s) → e ≡ d
  pub refused : (k : ℕ) → placed_says a ≡ refuses k → (t ≡ s) × (e ≡ d)
  pub within : PlacedWithin n s a
  pub looks : most ≡ 0 → lowest_due n s ≡ 0 → BothUntouched n s d a t e

abbrev pub InsertSpareQuick : Numbers → ℕ → ℕ → List ℕ → List ℕ → Result Placed Refusal → List ℕ → List ℕ → Type 0
InsertSpareQuick n hash most s d a t e =
    QuickOn n s (λ k. (placed_says a ≡ refuses k) × (t ≡ s) × (e ≡ d)) (λ l. Places n (inserting n hash most) l s d (placed_says a) t e) (SpareLeaves n most s d a t e)

-- ---- how the code comes to it
-- the answer of the insert into the spare
abbrev pub placed_in_spare : Result (ℕ × Numbers) Refusal → Result Placed Refusal
placed_in_spare (Ok p) = Ok (InSpare p.0 p.1)
placed_in_spare (Err k) = Err k

-- what an insert into the old buffer, 0, or the spare, 1, says
abbrev said_in : ℕ → Answer Changed → Answer PlacedIn
said_in spare (gives c) = gives (placed_in c.answer spare c.numbers)
said_in spare (refuses k) = refuses k

spare_says : (z : Result (ℕ × Numbers) Refusal) → placed_says (placed_in_spare z) ≡ said_in 1 (inserted_says z)
spare_says (Ok p) = refl
spare_says (Err k) = refl

spare_within : (n : Numbers) (s : List ℕ) → SoundOf n s → (z : Result (ℕ × Numbers) Refusal) → ChangedWithin (grown_to n n.len) (inserted_says z) → PlacedWithin n s (placed_in_spare z)
spare_within n s y (Ok p) w = (y, w)
spare_within n s y (Err k) w = tt

pub record PutsInSpare (n : Numbers) (hash most : ℕ) (s : List ℕ) (a : Result Placed Refusal) (t : List ℕ) : Type 0 where
  pub answer : Result (ℕ × Numbers) Refusal
  pub right : InsertQuick n hash most s answer t
  pub is : a ≡ placed_in_spare answer

pub put_in_spare : (n : Numbers) (hash most : ℕ) (s : List ℕ) (z : Result (ℕ × Numbers) Refusal) (t : List ℕ) → InsertQuick n hash most s z t → PutsInSpare n hash most s (placed_in_spare z) t
put_in_spare n hash most s z t h = record { answer = z; right = h; is = refl }

-- what is promised of a filter that is full for this fingerprint, and of any other
pub record MovesWorked (n : Numbers) (hash most : ℕ) (s d : List ℕ) (a : Result Placed Refusal) (e : List ℕ) : Type 0 where
  pub right : (l : List ℕ) → lowest_due n s ≡ 0 → HoldsOf n s l → 0 < (inserting n hash most).due l → Moves n (inserting n hash most) l d (placed_says a) e
  pub whole : ¬ (SoundOf n s) → e ≡ d
  pub refused : (k : ℕ) → placed_says a ≡ refuses k → e ≡ d
  pub within : PlacedWithin n s a

-- what the answer of the plain insert leads to
abbrev pub MovesIfFull : Numbers → ℕ → ℕ → List ℕ → List ℕ → Result (ℕ × Numbers) Refusal → Result Placed Refusal → List ℕ → Type 0
MovesIfFull n hash most s d (Ok p) a e = (a ≡ Ok (InOld p.0 p.1)) × (e ≡ d)
MovesIfFull n hash most s d (Err k) a e = (k ≢ NoRoom → (a ≡ Err k) × (e ≡ d)) × (k ≡ NoRoom → MovesWorked n hash most s d a e)

module _ (n : Numbers) (hash most : ℕ) (s d : List ℕ) where
  -- growth that was refused has left the spare as it was
  kept : (k : Refusal) (t : List ℕ) → Grows n s d (Err k) t → t ≡ d
  kept k t g = go (eq-zero-or-pos (lowest_due n s)) (sound_dec n.qbits n.rbits n.len n.max_qbits s)
    where
      by : (l : List ℕ) → GrowsTo n l d (Err k) t → (grow_due n (length d) ≡ 0) ⊎ (0 < grow_due n (length d)) → t ≡ d
      by l p (inl z) = let x = (p.done z).0 in let y : ◌≡◌ {A = ℕ} 0 1 = cc in absurd (omega arith)
      by l p (inr z) = (p.refused z).1

      go : (lowest_due n s ≡ 0) ⊎ (0 < lowest_due n s) → Dec (SoundOf n s) → t ≡ d
      go (inr z) y = (g.early z).1
      go (inl z) (no y) = (g.damaged z y).1
      go (inl z) (yes y) = by y.held (g.sound z y.held y.holds) (eq-zero-or-pos (grow_due n (length d)))

  -- growth was refused
  pub moves_refused : (k : Refusal) (t : List ℕ) → Grows n s d (Err k) t → MovesWorked n hash most s d (Err k) t
  moves_refused k t g = record {
    right = λ l e h c.
        let p = g.sound e l h in
        record {
          refused = λ z. (ap refuses (ap answered (p.refused z).0), (p.refused z).1);
          done = λ z. let x = (p.done z).0 in let y : ◌≡◌ {A = ℕ} 0 1 = cc in absurd (omega arith);
        };
    whole = λ _. kept k t g;
    refused = λ _ _. kept k t g;
    within = tt;
  }

  -- growth was done, and the insert into the spare found room
  module _ (g : Numbers) (m : List ℕ) (w : Grows n s d (Ok g) m) (a : Result Placed Refusal) (t : List ℕ) (p : PutsInSpare g hash most m a t) where
    abbrev f : ℕ
    f = fingerprint_of n hash

    in_spare : (l : List ℕ) → lowest_due n s ≡ 0 → HoldsOf n s l → grow_due n (length d) ≡ 0
        → (placed_says a ≡ gives (placed_in (insert_answer most f l) 1 (grown_to n (length (inserted most f l))))) × (t ≡ image (n.qbits + 1) (n.rbits - 1) (inserted most f l))
    in_spare l e h z =
        let b = (w.sound e l h).done z in
        let x = b.0 in
        let y : g ≡ grown_to n (length l) = cc in
        let above = grows_room n (length d) z in
        let same = grown_fingerprint n s l e h above (length l) hash in
        let i : InsertQuick (grown_to n (length l)) hash most (image (n.qbits + 1) (n.rbits - 1) l) p.answer t = rw (y, b.1) at p.right in
        let room = room_due (capacity (n.qbits + 1)) most (fingerprint_of (grown_to n (length l)) hash) l (grown_room n s l e h above) in
        let r = (i.sound (grown_clear n s l e h above) l (grown_holds n s l e h above)).done room in
        (ap placed_says p.is ∙ spare_says p.answer ∙ ap (said_in 1) r.0 ∙ rw same, r.1 ∙ rw same)

    grew : (y : SoundOf n s) × GrowsTo n y.held d (Ok g) m
    grew = not_refused _ _ _ _ s _ _ w (λ k z. let x : ◌≡◌ {A = ℕ} 0 1 = cc z.0 in omega arith)

    never : (l : List ℕ) → GrowsTo n l d (Ok g) m → 0 < grow_due n (length d) → ⊥
    never l b z = let x = (b.refused z).0 in let y : ◌≡◌ {A = ℕ} 0 1 = cc in omega arith

    placed : (k : ℕ) → placed_says a ≡ refuses k → (grow_due n (length d) ≡ 0) ⊎ (0 < grow_due n (length d)) → ⊥
    placed k x (inl z) = let y = (in_spare grew.0.held grew.0.none grew.0.holds z).0 in let v : ◌≡◌ {A = ℕ} 0 1 = cc in omega arith
    placed k x (inr z) = never grew.0.held grew.1 z

    -- the record of growth, whatever its len, is the one that the insert keeps to
    grown_is : g ≡ grown_to n (length grew.0.held)
    grown_is = (leaves_given _ _ (grown_to n (length grew.0.held)) grew.0.held d g m grew.1).1

    re_len : (z : Result (ℕ × Numbers) Refusal) (k : ℕ) → ChangedWithin (grown_to n k) (inserted_says z) → ChangedWithin (grown_to n n.len) (inserted_says z)
    re_len (Ok p) k w = record { rest = w.rest; within = w.within }
    re_len (Err j) k w = tt

    kept_grown : ChangedWithin (grown_to n n.len) (inserted_says p.answer)
    kept_grown = re_len p.answer _ (subst (λ (x : Numbers). ChangedWithin x (inserted_says p.answer)) grown_is p.right.other.2)

    pub moves_grown : MovesWorked n hash most s d a t
    moves_grown = record {
      right = λ l e h c. record { refused = λ z. absurd (never l (w.sound e l h) z); done = λ z. in_spare l e h z };
      whole = λ y. absurd (y grew.0);
      refused = λ k x. absurd (placed k x (eq-zero-or-pos (grow_due n (length d))));
      within = subst (PlacedWithin n s) (sym p.is) (spare_within n s grew.0 p.answer kept_grown);
    }

-- each answer of the plain insert
module _ (n : Numbers) (hash most : ℕ) (s d : List ℕ) (z : Result (ℕ × Numbers) Refusal) (a : Result Placed Refusal) (e : List ℕ) where
  leads : {z' : Result (ℕ × Numbers) Refusal} → z ≡ z' → MovesIfFull n hash most s d z' a e → MovesIfFull n hash most s d z a e
  leads x w = subst (λ (y : Result (ℕ × Numbers) Refusal). MovesIfFull n hash most s d y a e) (sym x) w

  pub if_full_counted : (p : ℕ × Numbers) → z ≡ Ok p → (a ≡ Ok (InOld p.0 p.1)) × (e ≡ d) → MovesIfFull n hash most s d z a e
  if_full_counted p x w = leads x w

  pub if_full_refused : (k : Refusal) → z ≡ Err k → k ≢ NoRoom → (a ≡ Err k) × (e ≡ d) → MovesIfFull n hash most s d z a e
  if_full_refused k x b p = leads x ((λ _. p), (λ c. absurd (b c)))

  pub if_full_moved : z ≡ Err NoRoom → MovesWorked n hash most s d a e → MovesIfFull n hash most s d z a e
  if_full_moved x p = leads x ((λ c. absurd (c refl)), (λ _. p))

-- what it led to: to its own answer, where it was done; to its number, unless that is 7; and else to the growth into the spare
module _ (n : Numbers) (hash most : ℕ) (s d : List ℕ) (a : Result Placed Refusal) (e : List ℕ) where
  led_done : (z : Result (ℕ × Numbers) Refusal) (c : Changed) → MovesIfFull n hash most s d z a e → inserted_says z ≡ gives c → (placed_says a ≡ gives (placed_in c.answer 0 c.numbers)) × (e ≡ d)
  led_done (Ok p) c w x = (ap placed_says w.0 ∙ ap (said_in 0) x, w.1)
  led_done (Err k) c w x = let v : ◌≡◌ {A = ℕ} 0 1 = cc in absurd (omega arith)

  led_refused : (z : Result (ℕ × Numbers) Refusal) (j : ℕ) → j ≢ 7 → MovesIfFull n hash most s d z a e → inserted_says z ≡ refuses j → (placed_says a ≡ refuses j) × (e ≡ d)
  led_refused (Ok p) j h w x = let v : ◌≡◌ {A = ℕ} 0 1 = cc in absurd (omega arith)
  led_refused (Err k) j h w x =
      let r = w.0 (λ y. h (sym (ap answered x) ∙ ap number y)) in
      (ap placed_says r.0 ∙ ap refuses (ap answered x), r.1)

  led_full : (z : Result (ℕ × Numbers) Refusal) → MovesIfFull n hash most s d z a e → inserted_says z ≡ refuses 7 → MovesWorked n hash most s d a e
  led_full (Ok p) w x = let v : ◌≡◌ {A = ℕ} 0 1 = cc in absurd (omega arith)
  led_full (Err k) w x = w.1 (number_tells k NoRoom (ap answered x))

-- the plain insert answered z and left t; what that led to is a, with the spare e
module _ (n : Numbers) (hash most : ℕ) (s d : List ℕ) (z : Result (ℕ × Numbers) Refusal) (t : List ℕ) (a : Result Placed Refusal) (e : List ℕ) (w : MovesIfFull n hash most t d z a e) where
  refused : (k : ℕ) → k ≢ 7 → (inserted_says z ≡ refuses k) × (t ≡ s) → (placed_says a ≡ refuses k) × (t ≡ s) × (e ≡ d)
  refused k x p =
      let r = led_refused n hash most t d a e z k x w p.0 in
      (r.0, p.1, r.1)

  early : (0 < lowest_due n s → (inserted_says z ≡ refuses (lowest_due n s)) × (t ≡ s)) → 0 < lowest_due n s → (placed_says a ≡ refuses (lowest_due n s)) × (t ≡ s) × (e ≡ d)
  early p h = refused (lowest_due n s) (λ x. omega (arith, due_most n.qbits n.rbits n.len n.max_qbits (length s))) (p h)

  places : (l : List ℕ) → lowest_due n s ≡ 0 → HoldsOf n s l → Turns n (inserting n hash most) l s (inserted_says z) t → Places n (inserting n hash most) l s d (placed_says a) t e
  places l c h i = record {
    old = λ x.
        let p = i.done x in
        let r = led_done n hash most t d a e z _ w p.0 in
        (r.0, p.1, r.1);
    full = λ x.
        let p = i.refused x in
        let seven = (due_some (capacity n.qbits) most (fingerprint_of n hash) l x).0 in
        let worked = led_full n hash most t d a e z w (p.0 ∙ ap refuses seven) in
        (p.1, (subst (λ (k : List ℕ). MovesWorked n hash most k d a e) p.1 worked).right l c h x);
  }

  pub spared_checked : Insert n hash most s z t → InsertSpare n hash most s d a t e
  spared_checked i = record { early = early i.early; damaged = λ c h. refused 6 (λ x. omega arith) (i.damaged c h); sound = λ c l h. places l c h (i.sound c l h) }

  pub spared_quick : InsertQuick n hash most s z t → InsertSpareQuick n hash most s d a t e
  spared_quick i = record { early = early i.early; sound = λ c l h. places l c h (i.sound c l h); other = leaves z w i.other }
    where
      leaves : (z : Result (ℕ × Numbers) Refusal) → MovesIfFull n hash most t d z a e → InsertLeaves n most s z t → SpareLeaves n most s d a t e
      leaves (Ok p) w i = record {
        inside = i.0;
        whole = λ _. w.1;
        refused = λ k x. let y = ap placed_says w.0 in let v : ◌≡◌ {A = ℕ} 0 1 = cc in absurd (omega arith);
        within = subst (PlacedWithin n s) (sym w.0) i.2;
        looks = λ x c. (ap placed_says w.0 ∙ ap (said_in 0) (i.3 x c).0, (i.3 x c).1, w.1);
      }
      leaves (Err k) w i = go (ℕ_discrete (number k) 7)
        where
          same : t ≡ s
          same = i.1 (number k) refl

          -- it is not refused with max_count 0
          never : {P : Type 0} → most ≡ 0 → lowest_due n s ≡ 0 → P
          never x c = let y = (i.3 x c).0 in let v : ◌≡◌ {A = ℕ} 0 1 = cc in absurd (omega arith)

          go : Dec (number k ≡ 7) → SpareLeaves n most s d a t e
          go (yes y) =
              let worked : MovesWorked n hash most s d a e = subst (λ (x : List ℕ). MovesWorked n hash most x d a e) same (w.1 (number_tells k NoRoom y)) in
              record { inside = i.0; whole = worked.whole; refused = λ j x. (same, worked.refused j x); within = worked.within; looks = never }
          go (no y) =
              let r = w.0 (λ x. y (ap number x)) in
              record { inside = i.0; whole = λ _. r.1; refused = λ _ _. (same, r.1); within = subst (PlacedWithin n s) (sym r.0) tt; looks = never }
