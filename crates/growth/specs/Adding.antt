-- What the counting of added fingerprints answers. A fingerprint of the other side is cut to self's width.
use Rattle.std.specs.Prelude.{ℕ, Bool, true, false, ◌+◌, ◌-◌, ◌*◌, ◌/◌, ◌%◌, ◌^◌, ◌≤◌, ◌<◌, min, ◌≡◌, refl, List, [], ◌∷◌, map, length, get_or, take}
use Rattle.std.proofs.Common.{sym, ap, ◌∙◌, arith, pow_pos, pow_mono, pow-add}
use Rattle.std.proofs.Math.Decide.{dec_le}
use Rattle.std.proofs.lemmas.List.{length-map}
use Rattle.theory.specs.tools.Choose.{choose_by}
use Rattle.theory.specs.Shape.{slots, fingerprint}
use Rattle.theory.specs.Holding.{copies, run}
use Rattle.theory.specs.list.Copies.{copies_nil}
use Rattle.theory.specs.list.Seek.{copies_run}
use Rattle.theory.specs.list.Firsts.{copies_taken, first_new, get_d_map}
use Rattle.theory.specs.list.Flat.{under_mono}
use Rattle.theory.specs.list.UpTo.{cut_same}
use Rattle.theory.specs.Joining.{added_once}
use Rattle.layout.specs.declared.shape.Shape.{Shape}
use Rattle.filter.specs.declared.lookup.Lookup.{Lookup}
use Rattle.filter.specs.declared.lookup.Lookup.TheVariants as lookup
use Rattle.filter.specs.Lookup.{Shows, Seeks}
use Rattle.growth.specs.declared.source.Source.{Source}

-- the fingerprint of a hash, and those of a list cut to the width of a shape
abbrev pub cut_of : Shape → ℕ → ℕ
cut_of h f = fingerprint h.qbits h.rbits f

abbrev pub cuts : Shape → List ℕ → List ℕ
cuts h l = map (fingerprint h.qbits h.rbits) l

-- what the bytes of a source show, and what it holds: nothing, if its len is 0
abbrev pub ShownBy : Source → List ℕ → Type 0
ShownBy a l = Shows a.lent.shape a.lent.buf.now l

pub record Held (a : Source) (l : List ℕ) : Type 0 where
  pub none : a.len ≡ 0 → l ≡ []
  pub some : 0 < a.len → ShownBy a l

pub held_shown : (a : Source) (l : List ℕ) → length l ≡ a.len → ShownBy a l → Held a l
held_shown a l n w = record { none = λ e. empty l (n ∙ e); some = λ _. w }
  where
    empty : (l : List ℕ) → length l ≡ 0 → l ≡ []
    empty [] e = refl
    empty (f ∷ l) e = absurd (omega arith)

-- whether a count is none
abbrev pub TellsNone : Bool → ℕ → Type 0
TellsNone true count = count ≡ 0
TellsNone false count = 0 < count

-- whether it is not held
pub record Lacks (a : Source) (hash : ℕ) (r : Bool) : Type 0 where
  pub right : (l : List ℕ) → ShownBy a l → TellsNone r (copies (cut_of a.lent.shape hash) l)

-- whether none of the first k of b is cut to f
pub record Unmet (b : Source) (h : Shape) (k f : ℕ) (r : Bool) : Type 0 where
  pub right : (l : List ℕ) → ShownBy b l → b.len ≡ length l → k ≤ length l → TellsNone r (copies f (take k (cuts h l)))

-- f stands behind k others, the last of them `before`
pub record Stands (l : List ℕ) (k before f : ℕ) : Type 0 where
  pub within : k < length l
  pub here : f ≡ get_or l k 0
  pub last : 0 < k → before ≡ get_or l (k - 1) 0

-- whether neither a nor one before it in b has its cut
pub record New (a b : Source) (k before f : ℕ) (r : Bool) : Type 0 where
  pub right : (la lb : List ℕ) → Held a la → ShownBy b lb → b.len ≡ length lb → Stands lb k before f
      → TellsNone r (copies (cut_of a.lent.shape f) la + copies (cut_of a.lent.shape f) (take k (cuts a.lent.shape lb)))

-- how many of b are added to a, and `enough` at most
pub record Adds (a b : Source) (enough r : ℕ) : Type 0 where
  pub bound : r ≤ b.len
  pub right : (la lb : List ℕ) → Held a la → ShownBy b lb → b.len ≡ length lb → r ≡ min enough (length (added_once la (cuts a.lent.shape lb)) - length la)

-- ---- a lookup
abbrev pub absent_of : Lookup → Bool
absent_of (lookup.Held k) = false
absent_of (lookup.Absent k) = true

pub lacks_seen : (a : Source) (hash : ℕ) (z : Lookup) → Seeks a.lent.shape a.lent.buf.now hash z → Lacks a hash (absent_of z)
lacks_seen a hash z p = record {
  right = λ l w.
      let h = a.lent.shape in
      let f = cut_of h hash in
      let same = copies_run (2 ^ h.rbits) (pow_pos h.rbits) f l in
      rw (p l w) (choose_by (λ y. TellsNone (absent_of y) (copies f l)) (dec_le 1 (copies (f % 2 ^ h.rbits) (run (2 ^ h.rbits) l (f / 2 ^ h.rbits)))) (λ b. omega arith) (λ b. omega arith));
}

-- ---- new: not the one before, not held by a, and not met
-- nothing is cut off a fingerprint that is no wider
pub cuts_same : (h : Shape) (b : Source) (l : List ℕ) → b.lent.shape.qbits + b.lent.shape.rbits ≤ h.qbits + h.rbits → ShownBy b l → cuts h l ≡ l
unfolding slots
cuts_same h b l few w =
    let k = b.lent.shape in
    cut_same h.qbits h.rbits l
    (under_mono (2 ^ k.qbits * 2 ^ k.rbits) (2 ^ (h.qbits + h.rbits)) l (omega (arith, pow-add 2 k.qbits k.rbits, pow_mono {i = k.qbits + k.rbits} {j = h.qbits + h.rbits} few)) w.holding.under)

module _ (a b : Source) (k before f : ℕ) where
  abbrev c : ℕ
  c = cut_of a.lent.shape f

  cut_at : (l : List ℕ) (j g : ℕ) → j < length l → g ≡ get_or l j 0 → get_or (cuts a.lent.shape l) j 0 ≡ cut_of a.lent.shape g
  cut_at l j g within e = get_d_map _ l j within ∙ ap (cut_of a.lent.shape) (sym e)

  pub new_repeat : 0 < k → f ≡ before → New a b k before f false
  new_repeat some e = record {
    right = λ la lb v w n t.
        omega (arith, t.within, copies_taken c (cuts a.lent.shape lb) (k - 1) k (omega arith) (omega (arith, t.within, length-map lb (cut_of a.lent.shape))) (cut_at lb (k - 1) f (omega (arith, t.within)) (e ∙ t.last some)));
  }

  pub new_held : 0 < a.len → Lacks a f false → New a b k before f false
  new_held some lacks = record { right = λ la lb v w n t. omega (arith, lacks.right la (v.some some)) }

  -- a does not hold it
  pub record Free : Type 0 where
    pub none : (la : List ℕ) → Held a la → copies c la ≡ 0

  pub free_none : a.len ≡ 0 → Free
  free_none e = record { none = λ la v. ap (copies c) (v.none e) ∙ copies_nil c }

  pub free_lacks : 0 < a.len → Lacks a f true → Free
  free_lacks some lacks = record { none = λ la v. lacks.right la (v.some some) }

  pub new_narrow : Free → (0 < k → f ≡ before → ⊥) → b.lent.shape.qbits + b.lent.shape.rbits ≤ a.lent.shape.qbits + a.lent.shape.rbits → New a b k before f true
  new_narrow free ne few = record {
    right = λ la lb v w n t.
        let same : cuts a.lent.shape lb ≡ lb = cuts_same a.lent.shape b lb few w in
        let here : get_or lb k 0 ≡ c = ap (λ (z : List ℕ). get_or z k 0) (sym same) ∙ cut_at lb k f t.within t.here in
        let none = first_new lb k w.holding.ascending t.within (λ some e. ne some (t.here ∙ sym e ∙ sym (t.last some))) in
        rw same (omega (arith, free.none la v, rw here at none));
  }

  pub new_unmet : (g : ℕ) (r : Bool) → Free → g ≡ c → Unmet b a.lent.shape k g r → New a b k before f r
  new_unmet g r free e u = record {
    right = λ la lb v w n t.
        let none : copies c la + copies c (take k (cuts a.lent.shape lb)) ≡ copies c (take k (cuts a.lent.shape lb)) = omega (arith, free.none la v) in
        rw none (rw e at (u.right lb w n (omega (arith, t.within))));
  }
