-- What follows of the promises of insert and remove: inserting and then removing one copy puts every byte and the record back, and the order of inserts leaves no trace.
-- Said of checked calls; on a sound buffer the quick ones are equal (Pinned). How offsets at 254, 255 and 256 go up and down is in the theory, writing/SaturatedOffsets. Assumes nothing.
use Rattle.std.specs.Prelude.{Option, Some, Result, Ok, ℕ, suc, ◌<◌, ◌≡◌, refl, ◌⊎◌, List, [], ◌∷◌, map, length}
use Rattle.std.proofs.Common.{sym, ap, subst, ◌∙◌, inl, inr, arith}
use Rattle.theory.specs.Answer.{gives}
use Rattle.theory.specs.Shape.{capacity}
use Rattle.theory.specs.Holding.{copies, more, fewer}
use Rattle.theory.specs.Changing.{insert_due, insert_answer, inserted}
use Rattle.theory.specs.Image.{image}
use Rattle.theory.specs.Joining.{added}
use Rattle.theory.specs.list.RuleCases.{due_none, held_answer}
use Rattle.theory.specs.list.Copies.{copies_more_here}
use Rattle.theory.specs.list.NoTrace.{fewer_more, added_order}
use Rattle.layout.specs.declared.numbers.Numbers.{Numbers}
use Rattle.layout.specs.declared.refusal.Refusal.{Refusal}
use Rattle.layout.specs.Records.{with_len, Changed, changed, lowest_due, SoundOf, fingerprint_of, HoldsOf}
use Rattle.layout.specs.Outcomes.{leaves_given}
use Rattle.writing.specs.Says.{removed_says, removed_tells}
use Rattle.writing.specs.Writing.{Turns, inserting, Insert, Remove}
use Rattle.writing.specs.Kept.{HoldingWithin, other_clear, other_holds, insert_holding}

-- an insert that adds a copy: it is not refused, and the record afterwards has one fingerprint more
pub record Adds (n : Numbers) (hash : ℕ) (s : List ℕ) (n' : Numbers) (t : List ℕ) : Type 0 where
  pub most : ℕ
  pub answer : ℕ
  pub kept : Insert n hash most s (Ok (answer, n')) t
  pub longer : n'.len ≡ suc n.len

-- the filter afterwards: its record, its buffer and its list
pub record Grown (n : Numbers) (l : List ℕ) (f : ℕ) (n' : Numbers) (t : List ℕ) : Type 0 where
  pub numbers : n' ≡ with_len n (length (more f l))
  pub bytes : t ≡ image n.qbits n.rbits (more f l)
  pub holding : HoldingWithin n (more f l)

module _ (n : Numbers) (s l : List ℕ) (e : lowest_due n s ≡ 0) (h : HoldsOf n s l) (hash : ℕ) where
  abbrev f : ℕ
  f = fingerprint_of n hash

  -- by the rule of insert a record that is longer by one is that of one copy more
  pub grown : (most m : ℕ) (n' : Numbers) (t : List ℕ) → Turns n (inserting n hash most) l s (gives (changed m n')) t → n'.len ≡ suc n.len → Grown n l f n' t
  grown most m n' t p longer = go (due_none (capacity n.qbits) most f l w.0)
    where
      w : (insert_due (capacity n.qbits) most f l ≡ 0) × (changed m n' ≡ changed (insert_answer most f l) (with_len n (length (inserted most f l))))
          × (t ≡ image n.qbits n.rbits (inserted most f l))
      w = leaves_given _ _ n (inserted most (fingerprint_of n hash) l) s (changed m n') t p

      numbers : n' ≡ with_len n (length (inserted most f l))
      numbers = ap (λ (x : Changed). x.numbers) w.1

      go : (inserted most f l ≡ l) ⊎ ((inserted most f l ≡ more f l) × (length l < capacity n.qbits)) → Grown n l f n' t
      go (inl z) = absurd (omega (arith, longer, ap (λ (x : Numbers). x.len) numbers, ap length z, h.many))
      go (inr z) = record { numbers = rw z.0 at numbers; bytes = rw z.0 at w.2; holding = rw z.0 at (insert_holding n s l e h hash most w.0) }

  -- taking it out puts record and buffer back
  pub put_back : (n' : Numbers) (t : List ℕ) → Grown n l f n' t → (a : Result (Option Numbers) Refusal) (u : List ℕ) → Remove n' hash t a u → (a ≡ Ok (Some n)) × (u ≡ s)
  put_back n' t g a u p =
      let n₁ = with_len n (length (more f l)) in
      let q : Remove n₁ hash t a u = subst (λ (z : Numbers). Remove z hash t a u) g.numbers p in
      let r = (q.sound (other_clear n s e (more f l) t g.bytes g.holding) (more f l) (other_holds n s e (more f l) t g.bytes g.holding)).done refl in
      let back = fewer_more f l h.holding.ascending in
      let one = held_answer f (more f l) (omega (arith, copies_more_here f l)) in
      let len : length (fewer f (more f l)) ≡ n.len = ap length back ∙ h.many in
      let says : removed_says n₁ a ≡ removed_says n₁ (Ok (Some n)) = r.0 ∙ (λ i. gives (changed (one i) (with_len n (len i)))) in
      (removed_tells n₁ a (Ok (Some n)) says, r.1 ∙ ap (image n.qbits n.rbits) back ∙ sym h.bytes)

-- ---- inserting and then removing one copy puts every byte and the record back
pub insert_remove : (n : Numbers) (s : List ℕ) → SoundOf n s → (hash : ℕ) (n' : Numbers) (t : List ℕ) → Adds n hash s n' t
    → (a : Result (Option Numbers) Refusal) (u : List ℕ) → Remove n' hash t a u → (a ≡ Ok (Some n)) × (u ≡ s)
insert_remove n s y hash n' t x =
    put_back n s y.held y.none y.holds hash n' t
    (grown n s y.held y.none y.holds hash x.most x.answer n' t (x.kept.sound y.none y.held y.holds) x.longer)

-- ---- the order of inserts leaves no trace
-- inserts one after the other, each of which adds a copy
unfoldable pub AddsAll : Numbers → List ℕ → List ℕ → Numbers → List ℕ → Type 0
AddsAll n s [] n' t = (n ≡ n') × (s ≡ t)
AddsAll n s (hash ∷ hashes) n' t = (n₁ : Numbers) × (s₁ : List ℕ) × Adds n hash s n₁ s₁ × AddsAll n₁ s₁ hashes n' t

grown_all : (hashes : List ℕ) (n : Numbers) (s l : List ℕ) → lowest_due n s ≡ 0 → HoldsOf n s l → (n' : Numbers) (t : List ℕ) → AddsAll n s hashes n' t
    → (n' ≡ with_len n (length (added l (map (fingerprint_of n) hashes)))) × (t ≡ image n.qbits n.rbits (added l (map (fingerprint_of n) hashes)))
unfolding AddsAll added
grown_all [] n s l e h n' t a = (sym a.0 ∙ ap (with_len n) (sym h.many), sym a.1 ∙ h.bytes)
grown_all (hash ∷ hashes) n s l e h n' t a =
    let x = a.2 in
    let g = grown n s l e h hash x.most x.answer a.0 a.1 (x.kept.sound e l h) x.longer in
    let m = more (fingerprint_of n hash) l in
    grown_all hashes (with_len n (length m)) a.1 m (other_clear n s e m a.1 g.bytes g.holding) (other_holds n s e m a.1 g.bytes g.holding) n' t
    (subst (λ (z : Numbers). AddsAll z a.1 hashes n' t) g.numbers a.3)

-- two series of inserts in which every fingerprint comes equally often, each insert adding a copy: equal records and equal bytes
pub order_traceless : (n : Numbers) (s : List ℕ) → SoundOf n s → (hashes hashes' : List ℕ)
    → ((f : ℕ) → copies f (map (fingerprint_of n) hashes) ≡ copies f (map (fingerprint_of n) hashes'))
    → (n' n'' : Numbers) (t t' : List ℕ) → AddsAll n s hashes n' t → AddsAll n s hashes' n'' t' → (n' ≡ n'') × (t ≡ t')
order_traceless n s sound hashes hashes' often n' n'' t t' x y =
    let l = sound.held in
    let p = grown_all hashes n s l sound.none sound.holds n' t x in
    let q = grown_all hashes' n s l sound.none sound.holds n'' t' y in
    let same = added_order l (map (fingerprint_of n) hashes) (map (fingerprint_of n) hashes') sound.holds.holding.ascending often in
    (p.0 ∙ ap (λ (z : List ℕ). with_len n (length z)) same ∙ sym q.0, p.1 ∙ ap (image n.qbits n.rbits) same ∙ sym q.1)
