-- Which copy goes.
use Rattle.std.specs.Prelude.{Option, Some, None, ℕ, suc, ◌+◌, ◌-◌, ◌%◌, ◌^◌, ◌≤◌, ◌<◌, min, ◌≡◌, ◌⊎◌, ◌≢◌, List, length, get_or}
use Rattle.std.proofs.Common.{sym, ap, ◌∙◌, inl, inr, arith}
use Rattle.std.proofs.Math.Decide.{dec_le}
use Rattle.theory.specs.Shape.{slots}
use Rattle.theory.specs.Holding.{copies, run}
use Rattle.theory.specs.Image.{Views, many, start}
use Rattle.theory.specs.list.Copies.{copies_le}
use Rattle.theory.specs.list.Last.{LastOf, last_none, last_meet, last_pass, last_absent}
use Rattle.layout.specs.Whole.{views_in}
use Rattle.layout.specs.declared.shape.Shape.{Shape}
use Rattle.writing.specs.declared.remove.GoingCopy.{GoingCopy}
use Rattle.theory.specs.reading.Walks.{RunStart, Unrolled}
use Rattle.filter.specs.Scan.{RunIn}
use Rattle.writing.specs.CopyIn.{first_is}
use Rattle.filter.specs.Lookup.{Shows, empty_run, shown_run, shown_few}

-- the last equal place, if there is one, as LastOf tells it: one more than it, or 0 for none
abbrev told : Option ℕ → ℕ
told (Some p) = suc p
told None = 0

-- the last equal place and how many places there are, or none equal
abbrev pub LastEqualAs : Option ℕ → ℕ → Option (ℕ × ℕ) → Type 0
LastEqualAs last size (Some p) = (last ≡ Some p.0) × (p.1 ≡ size)
LastEqualAs last size None = last ≡ None

-- the last equal place of a run and how many places it has, or none equal
abbrev pub LastIn : ℕ → List ℕ → Option (ℕ × ℕ) → Type 0
LastIn rem l (Some p) = LastOf rem l (length l) (suc p.0) × (p.1 ≡ length l)
LastIn rem l None = copies rem l ≡ 0

abbrev pub LastWithin : ℕ → Option (ℕ × ℕ) → Type 0
LastWithin m (Some p) = (p.0 < p.1) × (p.1 ≤ m)
LastWithin m None = Unit {0}

pub record LastSeen (m : ℕ) (v : Views) (at rem : ℕ) (a : Option (ℕ × ℕ)) : Type 0 where
  pub right : (l : List ℕ) → RunIn m v at l → length l < m → LastIn rem l a
  pub bound : LastWithin m a

-- k places are passed, `last` is the last equal one of them, and the run goes on
pub record Looking (m : ℕ) (v : Views) (at rem k : ℕ) (last : Option ℕ) : Type 0 where
  pub right : (l : List ℕ) → RunIn m v at l → length l < m → (k < length l) × LastOf rem l k (told last)
  pub bound : told last ≤ k

pub looking_none : (m : ℕ) (v : Views) (at rem : ℕ) → Looking m v at rem 0 None
looking_none m v at rem = record { right = λ l w h. (w.some, last_none rem l); bound = omega arith }

-- of k places, all within a round
last_within : (m k : ℕ) (last : Option ℕ) → k ≤ m → told last ≤ k → (a : Option (ℕ × ℕ)) → LastEqualAs last k a → LastWithin m a
last_within m k last few h (Some p) t = (omega (arith, ap told t.0, t.1, h), omega (arith, t.1))
last_within m k last few h None t = tt

-- the place of the turn is equal, and the last so far, or it is passed
module _ (m : ℕ) (v : Views) (at rem k : ℕ) (last : Option ℕ) (here : ℕ) (next : Option ℕ) (p : Looking m v at rem k last) (is : here ≡ v.remainder ((at + k) % m)) (few : k < m)
    (by : ((here ≡ rem) × (next ≡ Some k)) ⊎ ((here ≢ rem) × (next ≡ last))) where
  looked : (l : List ℕ) → RunIn m v at l → length l < m → LastOf rem l (suc k) (told next)
  looked l w h = go by
    where
      cell : get_or l k 0 ≡ here
      cell = sym (is ∙ w.cells k (p.right l w h).0)

      go : ((here ≡ rem) × (next ≡ Some k)) ⊎ ((here ≢ rem) × (next ≡ last)) → LastOf rem l (suc k) (told next)
      go (inl y) = rw y.1 (last_meet rem l k (told last) (p.right l w h).1 (cell ∙ y.0))
      go (inr y) = rw y.1 (last_pass rem l k (told last) (p.right l w h).1 (λ z. y.0 (sym cell ∙ z)))

  within : told next ≤ k + 1
  within = go by
    where
      go : ((here ≡ rem) × (next ≡ Some k)) ⊎ ((here ≢ rem) × (next ≡ last)) → told next ≤ k + 1
      go (inl y) = omega (arith, ap told y.1)
      go (inr y) = omega (arith, ap told y.1, p.bound)

  -- the run's last place
  pub seen_end : v.runend ((at + k) % m) ≡ 1 → (a : Option (ℕ × ℕ)) → LastEqualAs next (k + 1) a → LastSeen m v at rem a
  seen_end one a t = record { right = λ l w h. there l w h a t; bound = last_within m (k + 1) next (omega arith) within a t }
    where
      over : (l : List ℕ) → RunIn m v at l → Dec (length l ≤ suc k) → length l ≤ suc k
      over l w (yes y) = y
      over l w (no y) = absurd (omega (arith, w.inner k (omega arith)))

      whole : (l : List ℕ) → RunIn m v at l → length l < m → LastOf rem l (length l) (told next)
      whole l w h =
          let e : suc k ≡ length l = omega (arith, over l w (dec_le (length l) (suc k)), (p.right l w h).0) in
          rw e at (looked l w h)

      there : (l : List ℕ) → RunIn m v at l → length l < m → (a : Option (ℕ × ℕ)) → LastEqualAs next (k + 1) a → LastIn rem l a
      there l w h (Some q) t = (rw t.0 at (whole l w h), omega (arith, t.1, over l w (dec_le (length l) (suc k)), (p.right l w h).0))
      there l w h None t = last_absent rem l (rw t at (whole l w h))

  pub looking_on : (v.runend ((at + k) % m) ≡ 1 → ⊥) → Looking m v at rem (k + 1) next
  looking_on going = record {
    right = λ l w h.
        let e : k + 1 ≡ suc k = omega arith in
        rw e (more l w (p.right l w h).0 (dec_le (length l) (suc k)), looked l w h);
    bound = within;
  }
    where
      more : (l : List ℕ) → RunIn m v at l → k < length l → Dec (length l ≤ suc k) → suc k < length l
      more l w h (yes y) = absurd (going (w.final k (omega arith)))
      more l w h (no y) = omega arith

-- a run is shorter than a round
pub seen_round : (m : ℕ) (v : Views) (at rem k : ℕ) (last : Option ℕ) → k ≡ m → Looking m v at rem k last → (a : Option (ℕ × ℕ)) → LastEqualAs last k a → LastSeen m v at rem a
seen_round m v at rem k last e p a t = record { right = λ l w h. absurd (omega (arith, (p.right l w h).0)); bound = last_within m k last (omega arith) p.bound a t }

-- of the run l of x: the last equal place; that of a runend bit in front of the run's last, or of the only one; and whether the quotient stays occupied
pub record GoingIn (m : ℕ) (n : ℕ → ℕ) (x rem : ℕ) (l : List ℕ) (p : GoingCopy) : Type 0 where
  pub place : ℕ
  pub last : LastOf rem l (length l) (suc place)
  pub at : p.slot ≡ start m n x + place
  pub bit_at : p.bit_slot ≡ start m n x + min place (length l - 2)
  pub stays : p.bit ≡ min 1 (length l - 1)

abbrev pub GoingCopyIn : ℕ → (ℕ → ℕ) → ℕ → ℕ → List ℕ → Option GoingCopy → Type 0
GoingCopyIn m n x rem l (Some p) = GoingIn m n x rem l p
GoingCopyIn m n x rem l None = copies rem l ≡ 0

abbrev pub GoingWithin : ℕ → Option GoingCopy → Type 0
GoingWithin x (Some p) = (x ≤ p.bit_slot) × (p.bit_slot ≤ p.slot) × (p.bit < 2)
GoingWithin x None = Unit {0}

pub record GoingFor (h : Shape) (s : List ℕ) (x rem : ℕ) (a : Option GoingCopy) : Type 0 where
  pub right : (l : List ℕ) → Shows h s l → GoingCopyIn (slots h.qbits) (many (slots h.qbits) (2 ^ h.rbits) l) x rem (run (2 ^ h.rbits) l x) a
  pub bound : GoingWithin x a

-- how the code comes to it
module _ (h : Shape) (s : List ℕ) (x rem : ℕ) (b : x < slots h.qbits) where
  abbrev m : ℕ
  m = slots h.qbits

  abbrev v : Views
  v = views_in h s

  pub going_empty : v.occupied x ≡ 0 → GoingFor h s x rem None
  going_empty e = record { right = λ l w. omega (arith, empty_run h s l w x b e, copies_le rem (run (2 ^ h.rbits) l x)); bound = tt }

  module _ (at : ℕ) (e : v.occupied x ≡ 0 → ⊥) (t : RunStart m v x at) where
    -- what the scan of the run told
    seen : (a : Option (ℕ × ℕ)) → LastSeen m v at rem a → (l : List ℕ) → Shows h s l → LastIn rem (run (2 ^ h.rbits) l x) a
    seen a c l w = c.right (run (2 ^ h.rbits) l x) (shown_run h s l w x b at e t) (shown_few h s l w x b)

    pub going_none : LastSeen m v at rem None → GoingFor h s x rem None
    going_none c = record { right = λ l w. seen None c l w; bound = tt }

    pub going_copy : 6 ≤ h.qbits → (first p size j bit : ℕ) → Unrolled m at x first → LastSeen m v at rem (Some (p, size)) → j ≡ min p (size - 2) → bit ≡ min 1 (size - 1)
        → GoingFor h s x rem (Some (record { slot = first + p; bit_slot = first + j; bit = bit }))
    going_copy low first p size j bit u c ej eb = record {
      right = λ l w.
          let y = seen (Some (p, size)) c l w in
          let f = first_is h low s x rem at first b t u l w in
          record { place = p; last = y.0; at = omega arith; bit_at = omega (arith, y.1); stays = omega (arith, y.1) };
      bound = (omega (arith, u.low), omega arith, omega arith);
    }
