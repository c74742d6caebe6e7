-- What taking a list's fingerprints in comes to: each is inserted as by the rule of insert, cut to the width of the buffer that it goes to.
use Prim.Native.Nat.{ℕ, suc, ◌+◌, ◌≤◌, ◌<◌}
use Rattle.std.specs.Prelude.{◌≡◌, refl, Some, None, Result, Ok, Err}
use Rattle.std.proofs.Common.{sym, subst, ◌∙◌, arith, add-one, drop-cons}
use Rattle.std.proofs.Math.Path.{ap}
use mathlib.Core.List.{List, [], map}
use Rattle.std.proofs.Math.Decide.{dec_le}
use Rattle.std.proofs.Math.ListN.{length, get_or, drop}
use Rattle.std.proofs.Math.Seq.{drop-length}
use Rattle.theory.specs.Answer.{Answer, values}
use Rattle.theory.specs.Shape.{capacity, blocks, fingerprint}
use Rattle.theory.specs.Holding.{copies}
use Rattle.theory.specs.Changing.{up_to, insert_due, inserted}
use Rattle.theory.specs.number.Bytes.{le}
use Rattle.theory.specs.images.Block.{tail_at}
use Rattle.theory.specs.list.More.{more_length}
use Rattle.theory.specs.list.RuleCases.{up_to_more, enough_due, room_due}
use Rattle.theory.specs.list.UpTo.{added_up_to, up_to_grows}
use Rattle.layout.specs.declared.refusal.Refusal.{Refusal}
use Rattle.layout.specs.declared.shape.Shape.{Shape}
use Rattle.writing.specs.declared.insert.Insertion.{Insertion}
use Rattle.writing.specs.declared.insert.Insertion.TheVariants.{Enough, Added}
use Rattle.filter.specs.declared.listing.Place.{Place}
use Rattle.filter.specs.declared.listing.Stepped.{Stepped}
use Rattle.filter.specs.Lookup.{Shows}
use Rattle.writing.specs.Insert.{CoreAnswer, insertion_says, InsertsCore}
use Rattle.filter.specs.Places.{Step, stepped, place_of, step_some, First, Steps}

-- the last eight bytes stay
abbrev pub SameTail : Shape → List ℕ → List ℕ → Type 0
SameTail h s t = tail_at h.rbits (blocks h.qbits) (le t) ≡ tail_at h.rbits (blocks h.qbits) (le s)

-- what the destination holds after a list was taken into one that held a
abbrev pub taken_in : Shape → ℕ → List ℕ → List ℕ → List ℕ
taken_in h most a b = added_up_to most a (map (fingerprint h.qbits h.rbits) b)

-- if both show a list, and all fit, then all are taken in; and on any buffer the last eight bytes stay
pub record TakesIn (h : Shape) (s : List ℕ) (count : ℕ) (h' : Shape) (d : List ℕ) (len most a : ℕ) (t : List ℕ) : Type 0 where
  pub right : (l b : List ℕ) → Shows h s b → count ≡ length b → Shows h' d l → len ≡ length l
      → length (taken_in h' most l b) ≤ capacity h'.qbits
      → Shows h' t (taken_in h' most l b) × (a ≡ length (taken_in h' most l b))
  pub tail : SameTail h' d t
  pub high : a ≤ len + count

-- ---- one insert
abbrev pub held_after : ℕ → Result Insertion Refusal → ℕ
held_after len z = (values (record { answer = 0; len = len }) (insertion_says len z)).len

pub record Puts (h : Shape) (len f most : ℕ) (s : List ℕ) (a : ℕ) (t : List ℕ) : Type 0 where
  pub answer : Result Insertion Refusal
  pub core : InsertsCore h len f most s answer t
  pub is : a ≡ held_after len answer
  pub high : a ≤ len + 1

pub put_done : (h : Shape) (len f most : ℕ) (s : List ℕ) (z : Result Insertion Refusal) (t : List ℕ) → InsertsCore h len f most s z t → Puts h len f most s (held_after len z) t
put_done h len f most s z t c = record { answer = z; core = c; is = refl; high = most_one z }
  where
    most_one : (z : Result Insertion Refusal) → held_after len z ≤ len + 1
    most_one (Ok (Enough c)) = omega arith
    most_one (Ok (Added m)) = omega arith
    most_one (Err e) = omega arith

-- of what a step gave, if it gave a fingerprint
pub record PutsStep (h : Shape) (len : ℕ) (p : Step) (most : ℕ) (s : List ℕ) (a : ℕ) (t : List ℕ) : Type 0 where
  pub right : (f : ℕ) → p ≡ Ok (Some f) → Puts h len f most s a t
  pub tail : SameTail h s t
  pub high : a ≤ len + 1

module _ (h : Shape) (len most : ℕ) (s : List ℕ) where
  pub put_one : (f a : ℕ) (t : List ℕ) → Puts h len f most s a t → PutsStep h len (Ok (Some f)) most s a t
  put_one f a t c = record {
    right = λ g x. let same : f ≡ g = cc in subst (λ k. Puts h len k most s a t) same c;
    tail = c.core.tail;
    high = c.high;
  }

  pub put_none : (p : Step) → ((f : ℕ) → p ≡ Ok (Some f) → ⊥) → PutsStep h len p most s len s
  put_none p n = record { right = λ f e. absurd (n f e); tail = refl; high = omega arith }

  pub put_at_done : PutsStep h len (Ok None) most s len s
  put_at_done = put_none (Ok None) (λ f e. let z : ◌≡◌ {A = ℕ} 0 1 = cc in omega arith)

  pub put_at_refused : (k : Refusal) → PutsStep h len (Err k) most s len s
  put_at_refused k = put_none (Err k) (λ f e. let z : ◌≡◌ {A = ℕ} 0 1 = cc in omega arith)

-- a buffer that shows l then shows l with f inserted, if there is room or none is needed
module _ (h : Shape) (len f most : ℕ) (l s t : List ℕ) (z : Result Insertion Refusal) (c : InsertsCore h len f most s z t) (w : Shows h s l) (e : len ≡ length l)
    (room : copies (fingerprint h.qbits h.rbits f) l < most → len < capacity h.qbits) where
  abbrev cut : ℕ
  cut = fingerprint h.qbits h.rbits f

  due : insert_due (capacity h.qbits) most cut l ≡ 0
  due = go (dec_le most (copies cut l))
    where
      go : Dec (most ≤ copies cut l) → insert_due (capacity h.qbits) most cut l ≡ 0
      go (yes y) = enough_due (capacity h.qbits) most cut l y
      go (no y) = room_due (capacity h.qbits) most cut l (omega (arith, room (omega arith)))

  pub put_shows : Shows h t (up_to most cut l) × (held_after len z ≡ length (up_to most cut l))
  unfolding inserted
  put_shows =
      let r = (c.right l w (sym e)).done due in
      (r.1, ap (λ (a : Answer CoreAnswer). (values (record { answer = 0; len = len }) a).len) r.0)

-- ---- all of them: after i steps what is held, with the rest taken in, is what it comes to
pub record Taking (h : Shape) (b : List ℕ) (h' : Shape) (most : ℕ) (whole : List ℕ) (i held : ℕ) (p : Place) (d : List ℕ) : Type 0 where
  pub l : List ℕ
  pub at : p ≡ place_of h.qbits h.rbits b i
  pub shows : Shows h' d l
  pub many : held ≡ length l
  pub rest : taken_in h' most l (drop i b) ≡ whole

-- after i steps, of a list and a destination that began so
pub record Takes (h : Shape) (s : List ℕ) (count : ℕ) (h' : Shape) (d₀ : List ℕ) (len most i held : ℕ) (p : Place) (d : List ℕ) : Type 0 where
  pub right : (l b : List ℕ) → Shows h s b → count ≡ length b → Shows h' d₀ l → len ≡ length l
      → length (taken_in h' most l b) ≤ capacity h'.qbits
      → Taking h b h' most (taken_in h' most l b) i held p d
  pub tail : SameTail h' d₀ d
  pub high : held ≤ len + i

pub takes_first : (h : Shape) (s : List ℕ) (count : ℕ) (h' : Shape) (d : List ℕ) (len most : ℕ) (p : Place) → First h s count p → Takes h s count h' d len most 0 len p d
takes_first h s count h' d len most p f = record {
  right = λ l b w n x e room. record { l = l; at = f b w n; shows = x; many = e; rest = refl };
  tail = refl;
  high = omega arith;
}

module _ (h : Shape) (s : List ℕ) (count : ℕ) (h' : Shape) (d₀ : List ℕ) (len most : ℕ) where
  pub takes_last : (held : ℕ) (p : Place) (d : List ℕ) → Takes h s count h' d₀ len most count held p d → TakesIn h s count h' d₀ len most held d
  unfolding added_up_to
  takes_last held p d a = record {
    right = λ l b w n x e room.
        let g = a.right l b w n x e room in
        let none : drop count b ≡ [] = ap (λ k. drop k b) n ∙ drop-length b in
        let same : g.l ≡ taken_in h' most l b = ap (taken_in h' most g.l) (sym none) ∙ g.rest in
        (subst (Shows h' d) same g.shows, g.many ∙ ap length same);
    tail = a.tail;
    high = a.high;
  }

  module _ (i held : ℕ) (p : Place) (d : List ℕ) (st : Stepped) (goes : Steps h s p st) (held' : ℕ) (t : List ℕ) (puts : PutsStep h' held st.step most d held' t) where
    pub takes_next : i < count → Takes h s count h' d₀ len most i held p d → Takes h s count h' d₀ len most (i + 1) held' st.place t
    unfolding added_up_to
    takes_next some a = rw (add-one i) (record {
      right = λ l b w n x e room. next l b w (omega (arith, n)) room (a.right l b w n x e room);
      tail = puts.tail ∙ a.tail;
      high = omega (arith, puts.high, a.high);
    })
      where
        next : (l b : List ℕ) → Shows h s b → i < length b → length (taken_in h' most l b) ≤ capacity h'.qbits
            → Taking h b h' most (taken_in h' most l b) i held p d → Taking h b h' most (taken_in h' most l b) (suc i) held' st.place t
        next l b w lt room g =
            let f = get_or b i 0 in
            let c = fingerprint h'.qbits h'.rbits f in
            let is : st ≡ stepped (Ok (Some f)) (place_of h.qbits h.rbits b (suc i)) = goes.right b w i g.at ∙ step_some h.qbits h.rbits b i lt in
            let pt = puts.right f (ap (λ (z : Stepped). z.step) is) in
            let on : taken_in h' most (up_to most c g.l) (drop (suc i) b) ≡ taken_in h' most l b = ap (taken_in h' most g.l) (sym (drop-cons b i 0 lt)) ∙ g.rest in
            let up : length (up_to most c g.l) ≤ length (taken_in h' most l b) = omega (arith, up_to_grows most (up_to most c g.l) (map (fingerprint h'.qbits h'.rbits) (drop (suc i) b)), ap length on) in
            let free : copies c g.l < most → held < capacity h'.qbits = λ y.
            let one = up_to_more most c g.l y in
            omega (arith, up, ap length one, more_length c g.l, g.many) in
            let shown = put_shows h' held f most g.l d t pt.answer pt.core g.shows g.many free in
            record {
              l = up_to most c g.l;
              at = ap (λ (z : Stepped). z.place) is;
              shows = shown.0;
              many = pt.is ∙ shown.1;
              rest = on;
            }
