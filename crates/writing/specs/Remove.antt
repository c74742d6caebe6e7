-- The core of remove keeps the rule of the theory, Changing, on a buffer that shows a list.
use Rattle.std.specs.Prelude.{Some, None, Result, Ok, Err, IsOkUnless, Bool, true, false, ℕ, suc, ◌+◌, ◌-◌, ◌*◌, ◌/◌, ◌%◌, ◌^◌, ◌≤◌, ◌<◌, min, ◌≡◌, refl, ◌⊎◌, List, length}
use Rattle.std.proofs.Common.{sym, ap, ◌∙◌, inl, inr, arith, eq-zero-or-pos, pow_pos}
use Rattle.theory.specs.Shape.{slots, blocks, fingerprint}
use Rattle.theory.specs.Answer.{Answer, gives}
use Rattle.theory.specs.Holding.{copies, fewer, more, run, Holding}
use Rattle.theory.specs.Changing.{remove_answer}
use Rattle.theory.specs.Image.{Views, many, start, carry}
use Rattle.theory.specs.carry.CarryMore.{upto}
use Rattle.theory.specs.list.RuleCases.{absent_answer, held_answer, fewer_absent}
use Rattle.theory.specs.list.Last.{last_held}
use Rattle.theory.specs.list.More.{place, place_le}
use Rattle.theory.specs.list.Seek.{copies_run}
use Rattle.theory.specs.number.Bytes.{le}
use Rattle.theory.specs.reading.BehindRun.{Runs}
use Rattle.theory.specs.images.Block.{tail_at, views}
use Rattle.layout.specs.Whole.{views_in}
use Rattle.theory.specs.reading.FreeSlot.{run_before}
use Rattle.theory.specs.writing.OneMore.{room}
use Rattle.theory.specs.reading.LastShifted.{LastShifted}
use Rattle.theory.specs.writing.Removing.{TookOut, taken_tail, taken_runs, removed_image, room_shifted, start_kept, carry_without, put_back, fewer_length, fewer_holding, run_shorter, last_goes}
use Rattle.theory.specs.images.Sizes.{slots_blocks, fingerprint_lt}
use Rattle.theory.specs.images.ByViews.{Image, many_at}
use Rattle.layout.specs.declared.refusal.Refusal.{Refusal}
use Rattle.layout.specs.declared.refusal.Refusal.TheVariants.{NotSound}
use Rattle.layout.specs.declared.shape.Shape.{Shape}
use Rattle.layout.specs.Refusals.{says}
use Rattle.writing.specs.declared.remove.GoingCopy.{GoingCopy}
use Rattle.writing.specs.CopyOut.{GoingFor, GoingIn}
use Rattle.filter.specs.Lookup.{Shows, shown_runs}
use Rattle.theory.specs.reading.Walks.{OffsetOf}
use Rattle.writing.specs.Shifted.{ShiftedFrom, Renews}

-- what is written: all but the offset bytes, then those told anew from the carry o before the quotient's block, less one if the slot cleared lies in that block, a round on
pub record WroteOut (r m B q : ℕ) (p : GoingCopy) (e x : ℕ) (a : Result Unit Refusal) (x' : ℕ) : Type 0 where
  pub o : ℕ
  pub x₁ : ℕ
  pub offset : OffsetOf m (views r x) (q / 64) o
  pub took : TookOut r m B q p.slot p.bit_slot e p.bit x x₁
  pub renewed : Renews r m B (q / 64) (e / 64 - q / 64) (o - upto e (64 * (q / 64) + m)) x₁ a x'

-- what the core of a remove says: true, 1, or false, 0
abbrev pub removal_as : Bool → ℕ
removal_as true = 1
removal_as false = 0

abbrev pub removal_says : Result Bool Refusal → Answer ℕ
removal_says = says removal_as

-- the rule of remove
pub record RemovesAs (h : Shape) (f : ℕ) (l : List ℕ) (a : Result Bool Refusal) (t : List ℕ) : Type 0 where
  pub says : removal_says a ≡ gives (remove_answer f l)
  pub shows : Shows h t (fewer f l)

-- if the buffer shows l; and on any buffer nothing but 6 is refused, and the last eight bytes stay
pub record RemovesCore (h : Shape) (hash : ℕ) (s : List ℕ) (a : Result Bool Refusal) (t : List ℕ) : Type 0 where
  pub right : (l : List ℕ) → Shows h s l → RemovesAs h (fingerprint h.qbits h.rbits hash) l a t
  pub damaged : IsOkUnless a NotSound
  pub tail : tail_at h.rbits (blocks h.qbits) (le t) ≡ tail_at h.rbits (blocks h.qbits) (le s)

-- how the code comes to it
-- the core's answer, by that of the writes
abbrev pub gone : Result Unit Refusal → Result Bool Refusal
gone (Ok _) = Ok true
gone (Err e) = Err e

gone_damaged : (a : Result Unit Refusal) → IsOkUnless a NotSound → IsOkUnless (gone a) NotSound
gone_damaged (Ok _) d = tt
gone_damaged (Err e) d = d

module _ (h : Shape) (low : 6 ≤ h.qbits) (s : List ℕ) (hash x rem : ℕ)
    (ex : x ≡ fingerprint h.qbits h.rbits hash / 2 ^ h.rbits) (b : x < slots h.qbits) (er : rem ≡ fingerprint h.qbits h.rbits hash % 2 ^ h.rbits) where
  abbrev f : ℕ
  f = fingerprint h.qbits h.rbits hash

  abbrev m : ℕ
  m = slots h.qbits

  abbrev R : ℕ
  R = 2 ^ h.rbits

  abbrev v : Views
  v = views_in h s

  abbrev counts : List ℕ → ℕ → ℕ
  counts l = many (slots h.qbits) (2 ^ h.rbits) l

  pub core_absent : GoingFor h s x rem None → RemovesCore h hash s (Ok false) s
  core_absent p = record {
    right = λ l w. record { says = ap gives (sym (absent_answer f l (none l w))); shows = rw (fewer_absent f l (none l w)) w };
    damaged = tt;
    tail = refl;
  }
    where
      none : (l : List ℕ) → Shows h s l → copies f l ≡ 0
      none l w = copies_run R (pow_pos h.rbits) f l ∙ (rw (ex, er) at (p.right l w))

  module _ (p : GoingCopy) (g : GoingFor h s x rem (Some p)) where
    copy : (l : List ℕ) → Shows h s l → GoingIn m (counts l) (f / R) (f % R) (run R l (f / R)) p
    copy l w = rw (ex, er) at (g.right l w)

    held : (l : List ℕ) → Shows h s l → 0 < copies f l
    held l w = rw (copies_run R (pow_pos h.rbits) f l) (last_held (f % R) (run R l (f / R)) (copy l w).place (copy l w).last)

    damaged : ((l : List ℕ) → Shows h s l → ⊥) → RemovesCore h hash s (Err NotSound) s
    damaged never = record { right = λ l w. absurd (never l w); damaged = refl; tail = refl }

    -- the holding with one copy fewer
    module _ (l : List ℕ) (w : Shows h s l) where
      back : more f (fewer f l) ≡ l
      back = put_back m R (pow_pos h.rbits) f l w.holding (held l w)

      rest : Holding m R (fewer f l)
      rest = fewer_holding m R (pow_pos h.rbits) f l w.holding (held l w)

      u : f < m * R
      u = fingerprint_lt h.qbits h.rbits hash

      few : suc (length (fewer f l)) < m
      few = omega (arith, fewer_length m R (pow_pos h.rbits) f l w.holding (held l w), w.holding.fewer)

      shifted : LastShifted m (counts l) (f / R) (room m R (pow_pos h.rbits) (fewer f l) f rest u few).at
      shifted = rw back at (room_shifted h.rbits m (blocks h.qbits) (slots_blocks h.qbits low) (fewer f l) f rest u few)

    pub core_unshifted : ShiftedFrom m v x None → RemovesCore h hash s (Err NotSound) s
    core_unshifted k = damaged (λ l w. let k' = rw ex at k in let z : ◌≡◌ {A = ℕ} 0 1 = cc (k'.right (counts l) (shown_runs h s l w x b) w.image.offsets _ (shifted l w)) in omega arith)

    module _ (e : ℕ) (k : ShiftedFrom m v x (Some e)) where
      at_freed : (l : List ℕ) (w : Shows h s l) → e ≡ (room m R (pow_pos h.rbits) (fewer f l) f (rest l w) (u l w) (few l w)).at
      at_freed l w =
          let k' = rw ex at k in
          cc (k'.right (counts l) (shown_runs h s l w x b) w.image.offsets _ (shifted l w))

      -- the slots of the copy and of its runend bit, told of the holding with one copy fewer
      started : (l : List ℕ) (w : Shows h s l) → start m (counts l) (f / R) ≡ start m (counts (fewer f l)) (f / R)
      started l w = rw (back l w) at (start_kept h.rbits m (blocks h.qbits) (slots_blocks h.qbits low) (fewer f l) f (rest l w) (u l w) (few l w))

      placed : (l : List ℕ) (w : Shows h s l) → (copy l w).place ≡ place (f % R) (run R (fewer f l) (f / R))
      placed l w = last_goes m R (pow_pos h.rbits) f l w.holding (held l w) (copy l w).place (copy l w).last

      slot_is : (l : List ℕ) (w : Shows h s l) → p.slot ≡ start m (counts (fewer f l)) (f / R) + place (f % R) (run R (fewer f l) (f / R))
      slot_is l w = omega (arith, (copy l w).at, started l w, placed l w)

      size : (l : List ℕ) (w : Shows h s l) → length (run R l (f / R)) ≡ suc (counts (fewer f l) (f / R))
      size l w = run_shorter m R (pow_pos h.rbits) f l w.holding (held l w) ∙ ap suc (sym (many_at m R (fewer f l) (f / R) (rw ex at b)))

      pub core_before : e < p.slot → RemovesCore h hash s (Err NotSound) s
      core_before y = damaged (λ l w.
          let z = room m R (pow_pos h.rbits) (fewer f l) f (rest l w) (u l w) (few l w) in
          omega (arith, at_freed l w, run_before m (counts (fewer f l)) (f / R) z, slot_is l w, place_le (f % R) (run R (fewer f l) (f / R)), many_at m R (fewer f l) (f / R) (rw ex at b)))

      module _ (a : Result Unit Refusal) (t : List ℕ) (small : p.bit < 2) (bound : e < x + m) (y : WroteOut h.rbits m (blocks h.qbits) x p e (le s) a (le t)) where
        module _ (l : List ℕ) (w : Shows h s l) where
          abbrev n : ℕ → ℕ
          n = counts (fewer f l)

          -- the place of the runend bit
          abbrev j : ℕ
          j = min (copy l w).place (length (run R l (f / R)) - 2)

          j_is : (j < n (f / R)) ⊎ ((n (f / R) ≡ 0) × (j ≡ 0))
          j_is = go (eq-zero-or-pos (n (f / R)))
            where
              go : (n (f / R) ≡ 0) ⊎ (0 < n (f / R)) → (j < n (f / R)) ⊎ ((n (f / R) ≡ 0) × (j ≡ 0))
              go (inl c) = inr (c, omega (arith, size l w))
              go (inr c) = inl (omega (arith, size l w))

          bit_slot_is : p.bit_slot ≡ start m n (f / R) + j
          bit_slot_is = omega (arith, (copy l w).bit_at, started l w)

          bit_is : p.bit ≡ min 1 (n (f / R))
          bit_is = omega (arith, (copy l w).stays, size l w)

          wrote : WroteOut h.rbits m (blocks h.qbits) (f / R) p e (le s) a (le t)
          wrote = rw ex at y

          was : Image m R (more f (fewer f l)) (views_in h s)
          was = rw (back l w) w.image

          runs : Runs m n (views h.rbits wrote.x₁)
          runs = taken_runs h.rbits m (blocks h.qbits) (slots_blocks h.qbits low) (fewer f l) f (rest l w) (u l w) (few l w) p.slot p.bit_slot e p.bit j (le s) wrote.x₁
              (slot_is l w) bit_slot_is (at_freed l w) j_is bit_is wrote.took was

          carried : wrote.o - upto e (64 * (f / R / 64) + m) ≡ carry m n (64 * (f / R / 64))
          carried =
              let c = rw (back l w) at (carry_without h.rbits m (blocks h.qbits) (slots_blocks h.qbits low) (fewer f l) f (rest l w) (u l w) (few l w)) in
              omega (arith, wrote.offset.right (counts l) (shown_runs h s l w x b) w.image.offsets, ap (λ g. upto g (64 * (f / R / 64) + m)) (at_freed l w), c)

          done : (a ≡ Ok tt) × Shows h t (fewer f l)
          done =
              let g = wrote.renewed.right n runs carried (omega (arith, slots_blocks h.qbits low)) in (
                g.0,
                record {
                  holding = rest l w;
                  image = removed_image h.rbits m (blocks h.qbits) (slots_blocks h.qbits low) (fewer f l) f (rest l w) (u l w) (few l w) p.slot p.bit_slot e p.bit j (le s) wrote.x₁
                      (slot_is l w) bit_slot_is (at_freed l w) j_is bit_is wrote.took was (le t) g.1 wrote.renewed.apart;
                },
              )

        pub core_gone : RemovesCore h hash s (gone a) t
        core_gone = record {
          right = λ l w. record { says = ap (λ z. removal_says (gone z)) (done l w).0 ∙ ap gives (sym (held_answer f l (held l w))); shows = (done l w).1 };
          damaged = gone_damaged a y.renewed.damaged;
          tail = y.renewed.apart.tail ∙ taken_tail h.rbits m (blocks h.qbits) x p.slot p.bit_slot e p.bit (le s) y.x₁ (slots_blocks h.qbits low) b small y.took;
        }
