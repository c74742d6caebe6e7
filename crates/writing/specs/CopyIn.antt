-- Where one copy more goes.
use Rattle.std.specs.Prelude.{ℕ, suc, ◌+◌, ◌-◌, ◌%◌, ◌^◌, ◌≤◌, ◌<◌, ◌≡◌, refl, ◌⊎◌, List, length, get_or, drop}
use Rattle.std.proofs.Common.{sym, ap, ◌∙◌, inl, inr, arith, add-one, pow_pos}
use Rattle.std.proofs.Math.Decide.{dec_le, dec_lt}
use Rattle.theory.specs.tools.Choose.{choose, choose_yes, choose_no}
use Rattle.theory.specs.Shape.{slots}
use Rattle.theory.specs.Holding.{copies, run, Ascending}
use Rattle.theory.specs.Image.{Views, many, start}
use Rattle.theory.specs.carry.Carry.{start_carry}
use Rattle.theory.specs.list.Copies.{copies_le}
use Rattle.theory.specs.list.More.{place, place_le}
use Rattle.theory.specs.list.Runs.{run_ascending}
use Rattle.theory.specs.list.Scan.{copies_next, copies_over}
use Rattle.theory.specs.list.Spot.{place_pass, place_stop, place_over, copies_stop}
use Rattle.layout.specs.Whole.{views_in}
use Rattle.theory.specs.images.ByViews.{many_at}
use Rattle.theory.specs.reading.Offsets.{carry_lt}
use Rattle.theory.specs.images.Sizes.{slots_blocks}
use Rattle.layout.specs.declared.shape.Shape.{Shape}
use Rattle.writing.specs.declared.insert.Stop.{Stop}
use Rattle.writing.specs.declared.insert.Stop.TheVariants.{Inside, AtEnd}
use Rattle.writing.specs.declared.insert.Spot.{Spot}
use Rattle.theory.specs.reading.Walks.{RunStart, Unrolled, unrolled_is}
use Rattle.filter.specs.Scan.{RunIn}
use Rattle.filter.specs.Lookup.{Shows, empty_run, shown_runs, shown_run, shown_few}

-- before the first larger remainder of a run, or at its end; and the copies
abbrev pub stop_in : ℕ → List ℕ → Stop
stop_in rem l = choose (dec_lt (place rem l) (length l)) (Inside (place rem l) (copies rem l)) (AtEnd (place rem l) (copies rem l))

abbrev pub StopWithin : ℕ → Stop → Type 0
StopWithin m (Inside k c) = k ≤ m
StopWithin m (AtEnd k c) = (1 ≤ k) × (k ≤ m)

pub record Scanned (m : ℕ) (v : Views) (at rem : ℕ) (a : Stop) : Type 0 where
  pub right : (l : List ℕ) → RunIn m v at l → length l < m → Ascending l → a ≡ stop_in rem l
  pub bound : StopWithin m a

-- k places are passed, none larger, `met` of them equal, and the run goes on
pub record Scanning (m : ℕ) (v : Views) (at rem k met : ℕ) : Type 0 where
  pub right : (l : List ℕ) → RunIn m v at l → length l < m → (k < length l) × (place rem l ≡ k + place rem (drop k l)) × (copies rem l ≡ met + copies rem (drop k l))
  pub bound : met ≤ k

module _ (m : ℕ) (v : Views) (at rem k met here : ℕ) (p : Scanning m v at rem k met) (is : here ≡ v.remainder ((at + k) % m)) (few : k < m) where
  cell : (l : List ℕ) (w : RunIn m v at l) (h : length l < m) → get_or l k 0 ≡ here
  cell l w h = sym (is ∙ w.cells k (p.right l w h).0)

  pub scanned_inside : rem < here → Scanned m v at rem (Inside k met)
  scanned_inside q = record { right = λ l w h a. there l w h a; bound = omega arith }
    where
      there : (l : List ℕ) → RunIn m v at l → length l < m → Ascending l → Inside k met ≡ stop_in rem l
      there l w h a =
          let z = p.right l w h in
          let s : place rem l ≡ k = omega (arith, place_stop rem l k z.0 (omega (arith, cell l w h))) in
          let c : copies rem l ≡ met = omega (arith, copies_stop rem l k a z.0 (omega (arith, cell l w h))) in
          sym (choose_yes (dec_lt (place rem l) (length l)) _ _ (omega arith) ∙ ap (λ y. Inside y (copies rem l)) s ∙ ap (Inside k) c)

  module _ (e : ℕ) (low : here ≤ rem) (one : here ≡ rem → e ≡ 1) (none : (here ≡ rem → ⊥) → e ≡ 0) (bit : e ≤ 1) where
    on : (l : List ℕ) → RunIn m v at l → length l < m → (place rem l ≡ suc k + place rem (drop (suc k) l)) × (copies rem l ≡ met + e + copies rem (drop (suc k) l))
    on l w h =
        let z = p.right l w h in
        let c : here ≡ get_or l k 0 = sym (cell l w h) in
        (omega (arith, place_pass rem l k z.0 (omega arith)), omega (arith, copies_next rem l k e z.0 (λ y. one (c ∙ y)) (λ y. none (λ u. y (sym c ∙ u)))))

    pub scanned_end : v.runend ((at + k) % m) ≡ 1 → Scanned m v at rem (AtEnd (k + 1) (met + e))
    scanned_end last = record { right = λ l w h a. there l w h; bound = omega arith }
      where
        over : (l : List ℕ) → RunIn m v at l → k < length l → Dec (length l ≤ suc k) → length l ≤ suc k
        over l w h (yes y) = y
        over l w h (no y) = absurd (omega (arith, w.inner k (omega arith)))

        there : (l : List ℕ) → RunIn m v at l → length l < m → AtEnd (k + 1) (met + e) ≡ stop_in rem l
        there l w h =
            let z = p.right l w h in
            let o = over l w z.0 (dec_le (length l) (suc k)) in
            let s : place rem l ≡ k + 1 = omega (arith, (on l w h).0, place_over rem l (suc k) o) in
            let c : copies rem l ≡ met + e = omega (arith, (on l w h).1, copies_over rem l (suc k) o) in
            sym (choose_no (dec_lt (place rem l) (length l)) _ _ (λ y. omega arith) ∙ ap (λ y. AtEnd y (copies rem l)) s ∙ ap (AtEnd (k + 1)) c)

    pub scanning_on : (v.runend ((at + k) % m) ≡ 1 → ⊥) → Scanning m v at rem (k + 1) (met + e)
    scanning_on going = record {
      right = λ l w h. rw (add-one k) (more l w (p.right l w h).0 (dec_le (length l) (suc k)), (on l w h).0, (on l w h).1);
      bound = omega (arith, p.bound);
    }
      where
        more : (l : List ℕ) → RunIn m v at l → k < length l → Dec (length l ≤ suc k) → suc k < length l
        more l w h (yes y) = absurd (going (w.final k (omega arith)))
        more l w h (no y) = omega arith

pub scanned_round : (m : ℕ) (v : Views) (at rem k met : ℕ) → k ≡ m → 1 ≤ k → Scanning m v at rem k met → Scanned m v at rem (AtEnd k met)
scanned_round m v at rem k met e s p = record { right = λ l w h a. absurd (omega (arith, (p.right l w h).0)); bound = omega arith }

-- the place of one copy more of the remainder in the run of x, and the runend bit that comes with it: in front of the run's last, or the only one
pub record SpotIn (m : ℕ) (n : ℕ → ℕ) (x rem : ℕ) (l : List ℕ) (p : Spot) : Type 0 where
  pub at : p.slot ≡ start m n x + place rem l
  pub met : p.copies ≡ copies rem l
  pub bit_place : ℕ
  pub bit_at : p.bit_slot ≡ start m n x + bit_place
  pub bit_is : ((bit_place < n x) × (p.bit ≡ 0)) ⊎ ((n x ≡ 0) × (bit_place ≡ 0) × (p.bit ≡ 1))

pub record SpotFor (h : Shape) (s : List ℕ) (x rem : ℕ) (p : Spot) : Type 0 where
  pub right : (l : List ℕ) → Shows h s l → SpotIn (slots h.qbits) (many (slots h.qbits) (2 ^ h.rbits) l) x rem (run (2 ^ h.rbits) l x) p
  pub bit : p.bit < 2
  pub low : x ≤ p.bit_slot
  pub order : p.bit_slot ≤ p.slot

-- how the code comes to it: `first` is where the run of x starts
module _ (h : Shape) (low : 6 ≤ h.qbits) (s : List ℕ) (x rem at first : ℕ) (b : x < slots h.qbits)
    (t : RunStart (slots h.qbits) (views_in h s) x at) (u : Unrolled (slots h.qbits) at x first) where
  abbrev m : ℕ
  m = slots h.qbits

  abbrev v : Views
  v = views_in h s

  abbrev counts : List ℕ → ℕ → ℕ
  counts l = many (slots h.qbits) (2 ^ h.rbits) l

  pub first_is : (l : List ℕ) → Shows h s l → first ≡ start m (counts l) x
  first_is l w =
      let r = shown_runs h s l w x b in
      unrolled_is m at x first (start m (counts l) x) u (omega (arith, start_carry m (counts l) x))
      (omega (arith, start_carry m (counts l) x, carry_lt m _ (slots_blocks h.qbits low) (counts l) r.round x)) (t.right (counts l) r w.image.offsets)

  size : (l : List ℕ) → counts l x ≡ length (run (2 ^ h.rbits) l x)
  size l = many_at m (2 ^ h.rbits) l x b

  pub spot_new : v.occupied x ≡ 0 → SpotFor h s x rem (record { slot = first; bit_slot = first; bit = 1; copies = 0 })
  spot_new e = record {
    right = λ l w.
        let z = empty_run h s l w x b e in
        record {
          at = omega (arith, first_is l w, place_le rem (run (2 ^ h.rbits) l x));
          met = omega (arith, copies_le rem (run (2 ^ h.rbits) l x));
          bit_place = 0;
          bit_at = omega (arith, first_is l w);
          bit_is = inr (omega (arith, size l), refl, refl);
        };
    bit = omega arith;
    low = u.low;
    order = omega arith;
  }

  -- what the scan of the run told
  scanned : (a : Stop) → (v.occupied x ≡ 0 → ⊥) → Scanned m v at rem a → (l : List ℕ) → Shows h s l → a ≡ stop_in rem (run (2 ^ h.rbits) l x)
  scanned a e c l w =
      c.right (run (2 ^ h.rbits) l x) (shown_run h s l w x b at e t) (shown_few h s l w x b) (run_ascending (2 ^ h.rbits) (pow_pos h.rbits) l x w.holding.ascending)

  pub spot_inside : (k c : ℕ) → (v.occupied x ≡ 0 → ⊥) → Scanned m v at rem (Inside k c) → SpotFor h s x rem (record { slot = first + k; bit_slot = first + k; bit = 0; copies = c })
  spot_inside k c e d = record { right = λ l w. inside l w (dec_lt (place rem (run (2 ^ h.rbits) l x)) (length (run (2 ^ h.rbits) l x))); bit = omega arith; low = omega (arith, u.low); order = omega arith }
    where
      inside : (l : List ℕ) → Shows h s l → Dec (place rem (run (2 ^ h.rbits) l x) < length (run (2 ^ h.rbits) l x)) → SpotIn m (counts l) x rem (run (2 ^ h.rbits) l x) (record { slot = first + k; bit_slot = first + k; bit = 0; copies = c })
      inside l w (yes y) =
          let q = scanned (Inside k c) e d l w ∙ choose_yes (dec_lt (place rem (run (2 ^ h.rbits) l x)) (length (run (2 ^ h.rbits) l x))) _ _ y in
          let p : k ≡ place rem (run (2 ^ h.rbits) l x) = cc q in
          record { at = omega (arith, first_is l w); met = cc q; bit_place = k; bit_at = omega (arith, first_is l w); bit_is = inl (omega (arith, size l), refl) }
      inside l w (no y) =
          let q = scanned (Inside k c) e d l w ∙ choose_no (dec_lt (place rem (run (2 ^ h.rbits) l x)) (length (run (2 ^ h.rbits) l x))) _ _ y in
          absurd (let z : ◌≡◌ {A = ℕ} 0 1 = cc q in omega arith)

  pub spot_end : (k c : ℕ) → (v.occupied x ≡ 0 → ⊥) → Scanned m v at rem (AtEnd k c) → SpotFor h s x rem (record { slot = first + k; bit_slot = first + k - 1; bit = 0; copies = c })
  spot_end k c e d = record { right = λ l w. end l w (dec_lt (place rem (run (2 ^ h.rbits) l x)) (length (run (2 ^ h.rbits) l x))); bit = omega arith; low = omega (arith, u.low, d.bound); order = omega arith }
    where
      end : (l : List ℕ) → Shows h s l → Dec (place rem (run (2 ^ h.rbits) l x) < length (run (2 ^ h.rbits) l x)) → SpotIn m (counts l) x rem (run (2 ^ h.rbits) l x) (record { slot = first + k; bit_slot = first + k - 1; bit = 0; copies = c })
      end l w (no y) =
          let q = scanned (AtEnd k c) e d l w ∙ choose_no (dec_lt (place rem (run (2 ^ h.rbits) l x)) (length (run (2 ^ h.rbits) l x))) _ _ y in
          let p : k ≡ place rem (run (2 ^ h.rbits) l x) = cc q in
          let f = place_le rem (run (2 ^ h.rbits) l x) in
          record { at = omega (arith, first_is l w); met = cc q; bit_place = k - 1; bit_at = omega (arith, first_is l w, d.bound); bit_is = inl (omega (arith, size l, d.bound), refl) }
      end l w (yes y) =
          let q = scanned (AtEnd k c) e d l w ∙ choose_yes (dec_lt (place rem (run (2 ^ h.rbits) l x)) (length (run (2 ^ h.rbits) l x))) _ _ y in
          absurd (let z : ◌≡◌ {A = ℕ} 0 1 = cc q in omega arith)
