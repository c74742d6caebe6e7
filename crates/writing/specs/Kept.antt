-- Sound stays sound: the buffer that an insert or a remove leaves, with the record that it gives, is a sound filter. Assumes nothing.
use Rattle.std.specs.Prelude.{Some, Ok, ℕ, ◌^◌, ◌≤◌, ◌≡◌, refl, List, length}
use Rattle.std.proofs.Common.{sym, ap, subst, ◌∙◌, arith, pow_pos}
use Rattle.theory.specs.Answer.{gives}
use Rattle.theory.specs.Shape.{slots, capacity}
use Rattle.theory.specs.Holding.{Holding, fewer}
use Rattle.theory.specs.Changing.{Rule, insert_due, inserted}
use Rattle.theory.specs.Image.{image}
use Rattle.theory.specs.images.ImageBytes.{image_length}
use Rattle.theory.specs.list.StillHolding.{inserted_holding, removed_holding, inserted_room, removed_room}
use Rattle.theory.specs.images.Sizes.{fingerprint_lt, capacity_lt}
use Rattle.theory.specs.refusals.Demands.{not_refused}
use Rattle.theory.specs.refusals.ByNumber.{clear, clear_none}
use Rattle.layout.specs.Judging.{clear_of, held_within}
use Rattle.layout.specs.declared.numbers.Numbers.{Numbers}
use Rattle.layout.specs.Records.{with_len, Changed, changed, lowest_due, SoundOf, fingerprint_of, HoldsOf}
use Rattle.layout.specs.Outcomes.{leaves_given}
use Rattle.writing.specs.Writing.{TurnsOn, inserting, removing, Insert, Remove}

-- holdings of the widths of a record, of at most capacity
abbrev pub HoldingWithin : Numbers → List ℕ → Type 0
HoldingWithin n l = Holding (slots n.qbits) (2 ^ n.rbits) l × (length l ≤ capacity n.qbits)

-- ---- the image of another holding, with its len, is sound
module _ (n : Numbers) (s : List ℕ) (e : lowest_due n s ≡ 0) (g t : List ℕ) (is : t ≡ image n.qbits n.rbits g) (h : HoldingWithin n g) where
  pub other_clear : lowest_due (with_len n (length g)) t ≡ 0
  other_clear =
      let d = clear_of n s e in
      clear_none n.qbits n.rbits (length g) n.max_qbits (length t) (clear d.widths (ap length is ∙ image_length n.qbits n.rbits g) h.1 d.max_none)

  pub other_holds : HoldsOf (with_len n (length g)) t g
  other_holds = record { holding = h.0; many = refl; bytes = is }

-- ---- what insert and remove leave is a holding of at most capacity
module _ (n : Numbers) (s l : List ℕ) (e : lowest_due n s ≡ 0) (h : HoldsOf n s l) (hash : ℕ) where
  pub insert_holding : (most : ℕ) → insert_due (capacity n.qbits) most (fingerprint_of n hash) l ≡ 0 → HoldingWithin n (inserted most (fingerprint_of n hash) l)
  insert_holding most none = (
    inserted_holding (slots n.qbits) (2 ^ n.rbits) (fingerprint_of n hash) l h.holding (capacity n.qbits) most
        (capacity_lt n.qbits (clear_of n s e).widths.low) (fingerprint_lt n.qbits n.rbits hash) none,
    inserted_room (capacity n.qbits) (fingerprint_of n hash) l (held_within n s l e h) most none,
  )

  pub remove_holding : HoldingWithin n (fewer (fingerprint_of n hash) l)
  remove_holding = (
    removed_holding (slots n.qbits) (2 ^ n.rbits) (fingerprint_of n hash) l h.holding (pow_pos n.rbits),
    removed_room (capacity n.qbits) (fingerprint_of n hash) l (held_within n s l e h),
  )

-- ---- a change that is not refused
module _ (n : Numbers) (rule : Rule) (s : List ℕ) (c : Changed) (t : List ℕ) where
  -- of a filter that was sound, and left one that is
  turn_sound : ((l : List ℕ) → lowest_due n s ≡ 0 → HoldsOf n s l → rule.due l ≡ 0 → HoldingWithin n (rule.held l)) → TurnsOn n rule s (gives c) t → SoundOf c.numbers t
  turn_sound keeps p =
      let y = not_refused _ _ _ _ s _ _ p (λ k z. let x : ◌≡◌ {A = ℕ} 0 1 = cc z.0 in omega arith) in
      let l = y.0.held in
      let w = leaves_given _ _ n (rule.held l) s c t y.1 in
      let h = keeps l y.0.none y.0.holds w.0 in
      subst (λ (x : Changed). SoundOf x.numbers t) (sym w.1) (record {
        none = other_clear n s y.0.none (rule.held l) t w.2 h;
        held = rule.held l;
        holds = other_holds n s y.0.none (rule.held l) t w.2 h;
      })

pub insert_sound : (n : Numbers) (hash most : ℕ) (s : List ℕ) (m : ℕ) (n' : Numbers) (t : List ℕ) → Insert n hash most s (Ok (m, n')) t → SoundOf n' t
insert_sound n hash most s m n' t = turn_sound n (inserting n hash most) s (changed m n') t (λ l e h. insert_holding n s l e h hash most)

pub remove_sound : (n : Numbers) (hash : ℕ) (s : List ℕ) (n' : Numbers) (t : List ℕ) → Remove n hash s (Ok (Some n')) t → SoundOf n' t
remove_sound n hash s n' t = turn_sound n (removing n hash) s (changed 1 n') t (λ l e h _. remove_holding n s l e h hash)
