-- What the promises of this crate's public calls pin down: of each, any two outcomes (the answer with its record, and every lent byte) that keep its promise coincide.
-- Checked calls: for all inputs. The quick call: where a number 1 to 5 is due or the buffer is sound, and there it does what the checked one does; and with max_count 0 on every
-- buffer, though on a damaged one the checked call gives 6. Assumes nothing.
use Rattle.std.specs.Prelude.{Result, ℕ, ◌<◌, ◌≡◌, ◌⊎◌, List, length}
use Rattle.std.proofs.Common.{sym, ap, ◌∙◌, inl, inr, eq-zero-or-pos}
use Rattle.std.specs.Borrow.{MutBor}
use Rattle.theory.specs.Answer.{Answer, refuses}
use Rattle.theory.specs.refusals.Demands.{checked_one, quick_one, quick_checked}
use Rattle.layout.specs.declared.numbers.Numbers.{Numbers}
use Rattle.layout.specs.declared.refusal.Refusal.{Refusal}
use Rattle.writing.specs.Writing.{inserting}
use Rattle.writing.specs.Pinned.{InsertSettled}
use Rattle.layout.specs.Records.{HoldsOf, lowest_due}
use Rattle.layout.specs.Outcomes.{Settled, alike, apart, leaves_one}
use Rattle.growth.specs.declared.spare.Placed.{Placed}
use Rattle.growth.specs.Rebuilding.{grown_to, GrowsTo, Grows, grow_due}
use Rattle.growth.specs.Says.{rebuilt_says, rebuilt_tells, PlacedIn, placed_says, placed_tells}
use Rattle.growth.specs.Spare.{Places, SpareLeaves, InsertSpare, InsertSpareQuick}
use Rattle.growth.specs.Holder.{holder_of}

-- ---- a rebuild: an outcome is the answer and the destination afterwards
pub rebuild_grown_pinned : (n : Numbers) (s d : List ℕ) (a b : Result Numbers Refusal) (t u : List ℕ) → Grows n s d a t → Grows n s d b u → (a ≡ b) × (t ≡ u)
rebuild_grown_pinned n s d a b t u p q =
    apart (a, t) (b, u)
    (checked_one (λ k (x : Result Numbers Refusal × List ℕ). (rebuilt_says x.0 ≡ refuses k) × (x.1 ≡ d)) (λ l (x : Result Numbers Refusal × List ℕ). GrowsTo n l d x.0 x.1) _ _ _ _ s
    (λ k. alike rebuilt_says rebuilt_tells) (λ l _. leaves_one rebuilt_says rebuilt_tells _ _ (grown_to n (length l)) l d) (a, t) (b, u) p q)

-- ---- insert with a spare: an outcome is the answer, the old buffer and the spare afterwards
abbrev Outcome : Type 0
Outcome = Result Placed Refusal × List ℕ × List ℕ

both : {v : Answer PlacedIn} {t e : List ℕ} (x y : Outcome) → (placed_says x.0 ≡ v) × (x.1 ≡ t) × (x.2 ≡ e) → (placed_says y.0 ≡ v) × (y.1 ≡ t) × (y.2 ≡ e) → x ≡ y
both x y p q =
    let a = placed_tells x.0 y.0 (p.0 ∙ sym q.0) in
    λ i. (a i, (p.1 ∙ sym q.1) i, (p.2 ∙ sym q.2) i)

parts : (x y : Outcome) → x ≡ y → (x.0 ≡ y.0) × (x.1 ≡ y.1) × (x.2 ≡ y.2)
parts x y e = (ap (λ z. z.0) e, ap (λ z. z.1) e, ap (λ z. z.2) e)

module _ (n : Numbers) (hash most : ℕ) (s d : List ℕ) where
  abbrev Refused : ℕ → Outcome → Type 0
  Refused k x = (placed_says x.0 ≡ refuses k) × (x.1 ≡ s) × (x.2 ≡ d)

  abbrev Right : List ℕ → Outcome → Type 0
  Right l x = Places n (inserting n hash most) l s d (placed_says x.0) x.1 x.2

  abbrev Left : Outcome → Type 0
  Left x = SpareLeaves n most s d x.0 x.1 x.2

  refused_one : (k : ℕ) (x y : Outcome) → Refused k x → Refused k y → x ≡ y
  refused_one k x y p q = both x y p q

  right_one : (l : List ℕ) → HoldsOf n s l → (x y : Outcome) → Right l x → Right l y → x ≡ y
  right_one l _ x y p q = go (eq-zero-or-pos ((inserting n hash most).due l)) (eq-zero-or-pos (grow_due n (length d)))
    where
      go : ((inserting n hash most).due l ≡ 0) ⊎ (0 < (inserting n hash most).due l) → (grow_due n (length d) ≡ 0) ⊎ (0 < grow_due n (length d)) → x ≡ y
      go (inl b) z = both x y (p.old b) (q.old b)
      go (inr b) (inl z) =
          let g = p.full b in
          let h = q.full b in
          both x y ((g.1.done z).0, g.0, (g.1.done z).1) ((h.1.done z).0, h.0, (h.1.done z).1)
      go (inr b) (inr z) =
          let g = p.full b in
          let h = q.full b in
          both x y ((g.1.refused z).0, g.0, (g.1.refused z).1) ((h.1.refused z).0, h.0, (h.1.refused z).1)

  module _ (a b : Result Placed Refusal) (t u e g : List ℕ) where
    pub insert_with_spare_pinned : InsertSpare n hash most s d a t e → InsertSpare n hash most s d b u g → (a ≡ b) × (t ≡ u) × (e ≡ g)
    insert_with_spare_pinned p q = parts (a, t, e) (b, u, g) (checked_one Refused Right _ _ _ _ s refused_one right_one (a, t, e) (b, u, g) p q)

    pub insert_with_spare_quick_pinned : InsertSettled n most s → InsertSpareQuick n hash most s d a t e → InsertSpareQuick n hash most s d b u g → (a ≡ b) × (t ≡ u) × (e ≡ g)
    insert_with_spare_quick_pinned (inl c) p q = parts (a, t, e) (b, u, g) (quick_one Refused Right _ _ _ _ s refused_one right_one Left c (a, t, e) (b, u, g) p q)
    insert_with_spare_quick_pinned (inr z) p q = parts (a, t, e) (b, u, g) (go (eq-zero-or-pos (lowest_due n s)))
      where
        go : (lowest_due n s ≡ 0) ⊎ (0 < lowest_due n s) → ◌≡◌ {A = Outcome} (a, t, e) (b, u, g)
        go (inl c) = both (a, t, e) (b, u, g) (p.other.looks z c) (q.other.looks z c)
        go (inr h) = both (a, t, e) (b, u, g) (p.early h) (q.early h)

    pub spare_quick_checked : Settled n s → InsertSpareQuick n hash most s d a t e → InsertSpare n hash most s d b u g → (a ≡ b) × (t ≡ u) × (e ≡ g)
    spare_quick_checked c p q = parts (a, t, e) (b, u, g) (quick_checked Refused Right _ _ _ _ s refused_one right_one Left c (a, t, e) (b, u, g) p q)

-- ---- the holder: the reference itself
pub holder_pinned : (x : Result Placed Refusal) (old spare r r' : MutBor (List ℕ)) → r ≡ holder_of x old spare → r' ≡ holder_of x old spare → r ≡ r'
holder_pinned x old spare r r' p q = p ∙ sym q
