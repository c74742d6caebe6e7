-- Growth keeps every answer about holding and count, and sound stays sound: a grown filter, and the one that an insert with a spare leaves; and such an insert in the old buffer
-- is undone by a remove. Assumes nothing.
use Rattle.std.specs.Prelude.{Option, Some, Result, Ok, Err, ℕ, suc, ◌+◌, ◌-◌, ◌<◌, ◌≡◌, refl, ◌⊎◌, List, length}
use Rattle.std.proofs.Common.{sym, ap, subst, ◌∙◌, inl, inr, arith, eq-zero-or-pos}
use Rattle.theory.specs.Answer.{gives, number, values}
use Rattle.theory.specs.Shape.{capacity}
use Rattle.theory.specs.Changing.{insert_due, inserted}
use Rattle.theory.specs.Image.{image}
use Rattle.theory.specs.list.RuleCases.{room_due}
use Rattle.layout.specs.declared.numbers.Numbers.{Numbers}
use Rattle.layout.specs.declared.refusal.Refusal.{Refusal}
use Rattle.layout.specs.Records.{Changed, changed, lowest_due, SoundOf, fingerprint_of, HoldsOf}
use Rattle.layout.specs.Outcomes.{leaves_given}
use Rattle.filter.specs.declared.lookup.Lookup.{Lookup}
use Rattle.filter.specs.Asking.{Contains, Count}
use Rattle.filter.specs.Answers.{says_held, contains_alike, count_alike}
use Rattle.writing.specs.Writing.{Turns, inserting, Remove}
use Rattle.writing.specs.Kept.{HoldingWithin, other_clear, other_holds, insert_holding}
use Rattle.writing.specs.Traces.{grown, put_back}
use Rattle.growth.specs.declared.spare.Placed.{Placed}
use Rattle.growth.specs.declared.spare.Placed.TheVariants.{InOld, InSpare}
use Rattle.growth.specs.Says.{PlacedIn, placed_in, placed_as, placed_says, refused_is, placed_tells}
use Rattle.growth.specs.Rebuilding.{grown_to, Grows, grow_due}
use Rattle.growth.specs.Growing.{grows_room, grown_width, grown_fingerprint, grown_clear, grown_holds, grown_room}
use Rattle.growth.specs.Spare.{Places, InsertSpare, InsertSpareQuick}

-- ---- growth: g is the record afterwards, t the destination
module _ (n g : Numbers) (s d t : List ℕ) (y : SoundOf n s) (p : Grows n s d (Ok g) t) where
  record Grew : Type 0 where
    above : n.qbits < n.max_qbits
    is : grown_to n (length y.held) ≡ g
    bytes : image (n.qbits + 1) (n.rbits - 1) y.held ≡ t

  grew : Grew
  grew =
      let r = leaves_given _ _ (grown_to n (length y.held)) y.held d g t (p.sound y.none y.held y.holds) in
      record { above = grows_room n (length d) r.0; is = sym r.1; bytes = sym r.2 }

  -- the same list is held
  grown_same : (lowest_due g t ≡ 0) × HoldsOf g t y.held
  grown_same =
      let w = grew in
      rw (← w.is, ← w.bytes) (grown_clear n s y.held y.none y.holds w.above, grown_holds n s y.held y.none y.holds w.above)

  same_width : n.qbits + n.rbits ≡ g.qbits + g.rbits
  same_width =
      let w = grew in
      sym (grown_width n s y.held y.none y.holds w.above) ∙ ap (λ (x : Numbers). x.qbits + x.rbits) w.is

  pub grown_sound : SoundOf g t
  grown_sound = record { none = grown_same.0; held = y.held; holds = grown_same.1 }

  pub grown_contains : (hash : ℕ) (a a' : Result Lookup Refusal) → Contains n s hash a → Contains g t hash a' → says_held a ≡ says_held a'
  grown_contains hash = contains_alike n g s t y.held y.held y.none grown_same.0 y.holds grown_same.1 hash same_width refl

  pub grown_count : (hash : ℕ) (a a' : Result ℕ Refusal) → Count n s hash a → Count g t hash a' → a ≡ a'
  grown_count hash = count_alike n g s t y.held y.held y.none grown_same.0 y.holds grown_same.1 hash same_width refl

-- ---- insert with a spare: the buffer that the answer names, with its record, is sound; after a refusal the old one is
abbrev pub SoundIn : Numbers → Result Placed Refusal → List ℕ → List ℕ → Type 0
SoundIn n (Ok (InOld m n')) t e = SoundOf n' t
SoundIn n (Ok (InSpare m n')) t e = SoundOf n' e
SoundIn n (Err k) t e = SoundOf n t

module _ (n : Numbers) (s d : List ℕ) (y : SoundOf n s) (hash most : ℕ) (a : Result Placed Refusal) (t e : List ℕ) where
  abbrev f : ℕ
  f = fingerprint_of n hash

  -- from what is right for the list held
  placed_sound : Places n (inserting n hash most) y.held s d (placed_says a) t e → SoundIn n a t e
  placed_sound p = go (eq-zero-or-pos (insert_due (capacity n.qbits) most f y.held)) (eq-zero-or-pos (grow_due n (length d)))
    where
      l : List ℕ
      l = y.held

      same : t ≡ s → SoundOf n t
      same x = subst (SoundOf n) (sym x) y

      named : (b : Result Placed Refusal) → placed_says a ≡ placed_says b → SoundIn n b t e → SoundIn n a t e
      named b x w = subst (λ (z : Result Placed Refusal). SoundIn n z t e) (sym (placed_tells a b x)) w

      go : (insert_due (capacity n.qbits) most f y.held ≡ 0) ⊎ (0 < insert_due (capacity n.qbits) most f y.held) → (grow_due n (length d) ≡ 0) ⊎ (0 < grow_due n (length d)) → SoundIn n a t e
      go (inl b) z =
          let r = p.old b in
          let h = insert_holding n s l y.none y.holds hash most b in
          named (Ok (InOld _ _)) r.0 (record {
            none = other_clear n s y.none (inserted most f l) t r.1 h;
            held = inserted most f l;
            holds = other_holds n s y.none (inserted most f l) t r.1 h;
          })
      go (inr b) (inr z) =
          let r = p.full b in
          subst (λ (x : Result Placed Refusal). SoundIn n x t e) (sym (refused_is placed_as a _ (r.1.refused z).0).1) (same r.0)
      go (inr b) (inl z) =
          let r = (p.full b).1.done z in
          let above = grows_room n (length d) z in
          let g = grown_to n (length l) in
          let grown = image (n.qbits + 1) (n.rbits - 1) l in
          let clear = grown_clear n s l y.none y.holds above in
          let fingerprint = grown_fingerprint n s l y.none y.holds above (length l) hash in
          let room = room_due (capacity (n.qbits + 1)) most (fingerprint_of g hash) l (grown_room n s l y.none y.holds above) in
          let h : HoldingWithin g (inserted most f l) = rw fingerprint at (insert_holding g grown l clear (grown_holds n s l y.none y.holds above) hash most room) in
          named (Ok (InSpare _ _)) r.0 (record {
            none = other_clear g grown clear (inserted most f l) e r.1 h;
            held = inserted most f l;
            holds = other_holds g grown clear (inserted most f l) e r.1 h;
          })

  pub insert_spare_sound : InsertSpare n hash most s d a t e → SoundIn n a t e
  insert_spare_sound p = placed_sound (p.sound y.none y.held y.holds)

  pub insert_spare_quick_sound : InsertSpareQuick n hash most s d a t e → SoundIn n a t e
  insert_spare_quick_sound p = placed_sound (p.sound y.none y.held y.holds)

-- ---- inserting with a spare, in the old buffer, and then removing one copy puts every byte and the record back
pub spare_remove : (n : Numbers) (s d : List ℕ) → SoundOf n s → (hash most m : ℕ) (n' : Numbers) (t e : List ℕ) → InsertSpare n hash most s d (Ok (InOld m n')) t e → n'.len ≡ suc n.len
    → (a : Result (Option Numbers) Refusal) (u : List ℕ) → Remove n' hash t a u → (a ≡ Ok (Some n)) × (u ≡ s)
spare_remove n s d y hash most m n' t e p longer = put_back n s l y.none y.holds hash n' t (grown n s l y.none y.holds hash most m n' t turned longer)
  where
    l : List ℕ
    l = y.held

    right : Places n (inserting n hash most) l s d (gives (placed_in m 0 n')) t e
    right = p.sound y.none l y.holds

    changes : PlacedIn → Changed
    changes z = changed z.answer z.numbers

    turned : Turns n (inserting n hash most) l s (gives (changed m n')) t
    turned = record {
      refused = λ b. absurd (never b (eq-zero-or-pos (grow_due n (length d))));
      done = λ b. (ap (λ z. gives (changes (values (placed_in m 0 n') z))) (right.old b).0, (right.old b).1);
    }
      where
        never : 0 < (inserting n hash most).due l → (grow_due n (length d) ≡ 0) ⊎ (0 < grow_due n (length d)) → ⊥
        never b (inl z) = omega (arith, ap (λ x. (values (placed_in m 0 n') x).in_spare) ((right.full b).1.done z).0)
        never b (inr z) = omega (arith, ap number ((right.full b).1.refused z).0)
