-- What the scans of a run answer.
use Rattle.std.specs.Prelude.{ℕ, suc, ◌+◌, ◌-◌, ◌%◌, ◌≤◌, ◌<◌, ◌≡◌, ◌≢◌, ◌⊎◌, List, length, get_or, drop}
use Rattle.std.proofs.Common.{sym, ap, ◌∙◌, inl, inr, arith, add-one}
use Rattle.std.proofs.Math.Decide.{dec_le}
use Rattle.theory.specs.tools.Choose.{choose, choose_yes, choose_no}
use Rattle.theory.specs.Holding.{copies, seek}
use Rattle.theory.specs.Image.{Views}
use Rattle.theory.specs.list.Scan.{seek_pass, seek_stop, copies_pass, copies_meet, seek_over, copies_over, copies_next, seek_copies}
use Rattle.theory.specs.reading.RunAt.{RunAt}
use Rattle.filter.specs.declared.lookup.Lookup.{Lookup}
use Rattle.filter.specs.declared.lookup.Lookup.TheVariants.{Held, Absent}

-- the run l from slot `at` on
abbrev pub RunIn : ℕ → Views → ℕ → List ℕ → Type 0
RunIn m v at l = RunAt (λ t. v.runend (t % m)) (λ t. v.remainder (t % m)) at l

-- where the first equal remainder of a run stands, counted from 1; or the run's length
abbrev pub seen_in : ℕ → List ℕ → Lookup
seen_in rem l = choose (dec_le 1 (copies rem l)) (Held (seek rem l)) (Absent (seek rem l))

-- a scan for `rem` from slot `at` on finds what is in the run that stands there
abbrev pub SeenWithin : ℕ → Lookup → Type 0
SeenWithin m (Held k) = (1 ≤ k) × (k ≤ m)
SeenWithin m (Absent k) = k ≤ m

pub record Sought (m : ℕ) (v : Views) (at rem : ℕ) (a : Lookup) : Type 0 where
  pub right : (l : List ℕ) → RunIn m v at l → length l < m → a ≡ seen_in rem l
  pub bound : SeenWithin m a

-- k places are passed, none of them equal, and the run goes on
pub record Passed (rem : ℕ) (l : List ℕ) (k : ℕ) : Type 0 where
  pub within : k < length l
  pub sought : seek rem l ≡ k + seek rem (drop k l)
  pub copied : copies rem l ≡ copies rem (drop k l)

abbrev pub Passing : ℕ → Views → ℕ → ℕ → ℕ → Type 0
Passing m v at rem k = (l : List ℕ) → RunIn m v at l → length l < m → Passed rem l k

-- a run is shorter than a round, so a scan of a whole round has met its end
pub sought_round : (m : ℕ) (v : Views) (at rem k : ℕ) → k ≡ m → Passing m v at rem k → Sought m v at rem (Absent k)
sought_round m v at rem k h p = record { right = λ l w few. absurd (omega (arith, (p l w few).within)); bound = omega arith }

module _ (m : ℕ) (v : Views) (at rem k here : ℕ) (p : Passing m v at rem k) (e : here ≡ v.remainder ((at + k) % m)) where
  cell : (l : List ℕ) (w : RunIn m v at l) (h : length l < m) → get_or l k 0 ≡ here
  cell l w h = sym (e ∙ w.cells k (p l w h).within)

  pub sought_hit : here ≡ rem → k < m → Sought m v at rem (Held (k + 1))
  sought_hit q few = record { right = hit; bound = omega arith }
    where
      hit : (l : List ℕ) → RunIn m v at l → length l < m → Held (k + 1) ≡ seen_in rem l
      hit l w h =
          let z = p l w h in
          let s = seek_stop rem l k z.within (cell l w h ∙ q) in
          let c = copies_meet rem l k z.within (cell l w h ∙ q) in
          let f : k + 1 ≡ seek rem l = omega (arith, z.sought) in
          sym (choose_yes (dec_le 1 (copies rem l)) (Held (seek rem l)) (Absent (seek rem l)) (omega (arith, z.copied)) ∙ ap Held (sym f))

  -- the run's last place
  pub sought_end : here ≢ rem → v.runend ((at + k) % m) ≡ 1 → k < m → Sought m v at rem (Absent (k + 1))
  sought_end q one few = record { right = missed; bound = omega arith }
    where
      last : (l : List ℕ) → RunIn m v at l → Dec (length l ≤ suc k) → length l ≤ suc k
      last l w (yes y) = y
      last l w (no y) = absurd (omega (arith, w.inner k (omega arith)))

      missed : (l : List ℕ) → RunIn m v at l → length l < m → Absent (k + 1) ≡ seen_in rem l
      missed l w h =
          let z = p l w h in
          let over : length l ≤ suc k = last l w (dec_le (length l) (suc k)) in
          let s = seek_pass rem l k z.within (λ y. q (sym (cell l w h) ∙ y)) in
          let c = copies_pass rem l k z.within (λ y. q (sym (cell l w h) ∙ y)) in
          let f : k + 1 ≡ seek rem l = omega (arith, z.sought, seek_over rem l (suc k) over) in
          sym (choose_no (dec_le 1 (copies rem l)) (Held (seek rem l)) (Absent (seek rem l)) (λ y. omega (arith, z.copied, copies_over rem l (suc k) over)) ∙ ap Absent (sym f))

  pub passing_on : here ≢ rem → (v.runend ((at + k) % m) ≡ 1 → ⊥) → Passing m v at rem (k + 1)
  passing_on q none l w h =
      let z = p l w h in
      let e₁ : k + 1 ≡ suc k = omega arith in
      let s = seek_pass rem l k z.within (λ y. q (sym (cell l w h) ∙ y)) in
      let c = copies_pass rem l k z.within (λ y. q (sym (cell l w h) ∙ y)) in
      rw e₁ (record { within = more (dec_le (length l) (suc k)); sought = omega (arith, z.sought); copied = z.copied ∙ c })
    where
      more : Dec (length l ≤ suc k) → suc k < length l
      more (yes y) = absurd (none (w.final k (omega (arith, (p l w h).within))))
      more (no y) = omega arith

  -- the run is over, by its last slot or by a whole round
  pub sought_over : (bit : ℕ) → bit ≡ v.runend ((at + k) % m) → here ≢ rem → k < m → (bit ≡ 1) ⊎ ((bit ≡ 1 → ⊥) × (k + 1 ≡ m)) → Sought m v at rem (Absent (k + 1))
  sought_over bit d q few (inl one) = sought_end q (sym d ∙ one) few
  sought_over bit d q few (inr r) = sought_round m v at rem (k + 1) r.1 (passing_on q (λ y. r.0 (d ∙ y)))

-- how often `rem` stands in the run from its place `from` on
pub record Counted (m : ℕ) (v : Views) (at from rem a : ℕ) : Type 0 where
  pub right : (l : List ℕ) → RunIn m v at l → length l < m → from < length l → a ≡ copies rem (drop from l)
  pub bound : a ≤ m

-- k places of the run are passed, `count` of them, from `from` on, equal
pub record Counting (m : ℕ) (v : Views) (at from rem k count : ℕ) : Type 0 where
  pub right : (l : List ℕ) → RunIn m v at l → length l < m → from < length l → (k < length l) × (count + copies rem (drop k l) ≡ copies rem (drop from l))
  pub bound : count + from ≤ k

-- a run is shorter than a round
pub counted_round : (m : ℕ) (v : Views) (at from rem k count : ℕ) → k ≡ m → Counting m v at from rem k count → Counted m v at from rem count
counted_round m v at from rem k count e p = record {
  right = λ l w h f. absurd (omega (arith, (p.right l w h f).0));
  bound = omega (arith, p.bound);
}

module _ (m : ℕ) (v : Views) (at from rem k count here e : ℕ) (p : Counting m v at from rem k count) (is : here ≡ v.remainder ((at + k) % m))
    (one : here ≡ rem → e ≡ 1) (none : (here ≡ rem → ⊥) → e ≡ 0) (bit : e ≤ 1) where
  counted_on : (l : List ℕ) → RunIn m v at l → length l < m → from < length l → count + e + copies rem (drop (suc k) l) ≡ copies rem (drop from l)
  counted_on l w h f =
      let z = p.right l w h f in
      let c : here ≡ get_or l k 0 = is ∙ w.cells k z.0 in
      omega (arith, z.1, copies_next rem l k e z.0 (λ y. one (c ∙ y)) (λ y. none (λ u. y (sym c ∙ u))))

  pub counted_end : v.runend ((at + k) % m) ≡ 1 → k < m → Counted m v at from rem (count + e)
  counted_end last few = record {
    right = λ l w h f.
        let z = p.right l w h f in
        omega (arith, counted_on l w h f, copies_over rem l (suc k) (over l w z.0 (dec_le (length l) (suc k))));
    bound = omega (arith, p.bound);
  }
    where
      over : (l : List ℕ) → RunIn m v at l → k < length l → Dec (length l ≤ suc k) → length l ≤ suc k
      over l w h (yes y) = y
      over l w h (no y) = absurd (omega (arith, w.inner k (omega arith)))

  pub counting_on : (v.runend ((at + k) % m) ≡ 1 → ⊥) → Counting m v at from rem (k + 1) (count + e)
  counting_on going = record {
    right = λ l w h f. rw (add-one k) (more l w (p.right l w h f).0 (dec_le (length l) (suc k)), counted_on l w h f);
    bound = omega (arith, p.bound);
  }
    where
      more : (l : List ℕ) → RunIn m v at l → k < length l → Dec (length l ≤ suc k) → suc k < length l
      more l w h (yes y) = absurd (going (w.final k (omega arith)))
      more l w h (no y) = omega arith

  -- the run is over, by its last slot or, since it is shorter than a round, by a whole round
  pub counted_over : (b : ℕ) → b ≡ v.runend ((at + k) % m) → k < m → (b ≡ 1) ⊎ ((b ≡ 1 → ⊥) × (k + 1 ≡ m)) → Counted m v at from rem (count + e)
  counted_over b d few (inl last) = counted_end (sym d ∙ last) few
  counted_over b d few (inr r) = counted_round m v at from rem (k + 1) (count + e) r.1 (counting_on (λ y. r.0 (d ∙ y)))

-- from the first equal one on, all are counted
pub counted_all : (m : ℕ) (v : Views) (at rem k a : ℕ) (l : List ℕ) → RunIn m v at l → length l < m → Held k ≡ seen_in rem l → Counted m v at (k - 1) rem a → a ≡ copies rem l
counted_all m v at rem k a l w h e t = go (dec_le 1 (copies rem l))
  where
    go : Dec (1 ≤ copies rem l) → a ≡ copies rem l
    go (yes p) =
        let s = seek_copies rem l p in
        let f : k ≡ seek rem l = cc (e ∙ choose_yes (dec_le 1 (copies rem l)) (Held (seek rem l)) (Absent (seek rem l)) p) in
        let b : k - 1 < length l = omega arith in
        t.right l w h b ∙ rw f (sym s.2)
    go (no p) = absurd (cc (e ∙ choose_no (dec_le 1 (copies rem l)) (Held (seek rem l)) (Absent (seek rem l)) p))

pub counted_none : (rem k : ℕ) (l : List ℕ) → Absent k ≡ seen_in rem l → 0 ≡ copies rem l
counted_none rem k l e = go (dec_le 1 (copies rem l))
  where
    go : Dec (1 ≤ copies rem l) → 0 ≡ copies rem l
    go (yes p) = absurd (cc (e ∙ choose_yes (dec_le 1 (copies rem l)) (Held (seek rem l)) (Absent (seek rem l)) p))
    go (no p) = omega arith
