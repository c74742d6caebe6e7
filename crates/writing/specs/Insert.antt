-- The core of insert keeps the rule of the theory, Changing, on a buffer that shows a list.
use Rattle.std.specs.Prelude.{Some, None, Result, Ok, Err, ℕ, suc, ◌+◌, ◌*◌, ◌/◌, ◌%◌, ◌^◌, ◌≤◌, ◌<◌, ◌≡◌, refl, List, length}
use Rattle.std.proofs.Common.{sym, ap, ◌∙◌, arith, pow_pos}
use Rattle.theory.specs.Shape.{slots, capacity, blocks, fingerprint}
use Rattle.theory.specs.Answer.{Answer, gives, refuses}
use Rattle.theory.specs.Holding.{copies, more, run}
use Rattle.theory.specs.Changing.{insert_due, insert_answer, inserted}
use Rattle.theory.specs.Image.{Views, many}
use Rattle.theory.specs.carry.Carry.{FirstFree, first_free}
use Rattle.theory.specs.list.Seek.{copies_run}
use Rattle.theory.specs.list.RuleCases.{enough_due, enough_answer, enough_held, full_due_lem, room_due, more_answer, more_held}
use Rattle.theory.specs.list.More.{place_le, more_length}
use Rattle.theory.specs.number.Bytes.{le}
use Rattle.theory.specs.images.Block.{tail_at}
use Rattle.layout.specs.Whole.{views_in}
use Rattle.theory.specs.images.ByViews.{many_at}
use Rattle.theory.specs.images.Sizes.{slots_blocks, fingerprint_lt, capacity_lt}
use Rattle.theory.specs.reading.FreeSlot.{run_before}
use Rattle.theory.specs.writing.OneMore.{more_holding, room}
use Rattle.theory.specs.writing.Inserting.{Wrote, tail_was, written_image}
use Rattle.layout.specs.declared.refusal.Refusal.{Refusal}
use Rattle.layout.specs.declared.refusal.Refusal.TheVariants.{NotSound, NoRoom}
use Rattle.layout.specs.declared.shape.Shape.{Shape}
use Rattle.layout.specs.Refusals.{says}
use Rattle.writing.specs.declared.insert.Insertion.{Insertion}
use Rattle.writing.specs.declared.insert.Insertion.TheVariants.{Enough, Added}
use Rattle.writing.specs.declared.insert.Spot.{Spot}
use Rattle.filter.specs.Runs.{FreeFrom}
use Rattle.writing.specs.CopyIn.{SpotIn, SpotFor}
use Rattle.filter.specs.Lookup.{Shows, shown_runs}

-- what the core of an insert says: the answer, and how many fingerprints are held then
pub record CoreAnswer : Type 0 where
  pub answer : ℕ
  pub len : ℕ

abbrev pub insertion_as : ℕ → Insertion → CoreAnswer
insertion_as len (Enough c) = record { answer = c; len = len }
insertion_as len (Added m) = record { answer = m; len = len + 1 }

abbrev pub insertion_says : ℕ → Result Insertion Refusal → Answer CoreAnswer
insertion_says len = says (insertion_as len)

-- the rule of insert, if the buffer shows l, of len fingerprints
pub record InsertsAs (h : Shape) (len f most : ℕ) (l : List ℕ) (s : List ℕ) (a : Result Insertion Refusal) (t : List ℕ) : Type 0 where
  pub refused : 0 < insert_due (capacity h.qbits) most f l → (insertion_says len a ≡ refuses (insert_due (capacity h.qbits) most f l)) × (t ≡ s)
  pub done : insert_due (capacity h.qbits) most f l ≡ 0
      → (insertion_says len a ≡ gives (record { answer = insert_answer most f l; len = length (inserted most f l) })) × Shows h t (inserted most f l)

-- an insert that adds a copy was below capacity
abbrev pub Below : Shape → ℕ → Result Insertion Refusal → Type 0
Below h len (Ok (Added m)) = len < capacity h.qbits
Below h len (Ok (Enough c)) = Unit {0}
Below h len (Err e) = Unit {0}

-- and on any buffer the last eight bytes stay, what is refused has changed nothing, a copy is added only below capacity, and with max_count 0 the answer is 0 and nothing changes
pub record InsertsCore (h : Shape) (len hash most : ℕ) (s : List ℕ) (a : Result Insertion Refusal) (t : List ℕ) : Type 0 where
  pub right : (l : List ℕ) → Shows h s l → length l ≡ len → InsertsAs h len (fingerprint h.qbits h.rbits hash) most l s a t
  pub kept : (e : Refusal) → a ≡ Err e → t ≡ s
  pub below : Below h len a
  pub looks : most ≡ 0 → (a ≡ Ok (Enough 0)) × (t ≡ s)
  pub tail : tail_at h.rbits (blocks h.qbits) (le t) ≡ tail_at h.rbits (blocks h.qbits) (le s)

-- how the code comes to it
abbrev core_answer : ℕ → ℕ → CoreAnswer
core_answer answer len = record { answer = answer; len = len }

same_answer : {a b len len' : ℕ} → a ≡ b → len ≡ len' → gives (core_answer a len) ≡ gives (core_answer b len')
same_answer e f = λ i. gives (core_answer (e i) (f i))

module _ (h : Shape) (low : 6 ≤ h.qbits) (s : List ℕ) (len hash most x rem : ℕ) (p : Spot)
    (ex : x ≡ fingerprint h.qbits h.rbits hash / 2 ^ h.rbits) (b : x < slots h.qbits) (er : rem ≡ fingerprint h.qbits h.rbits hash % 2 ^ h.rbits)
    (sp : SpotFor h s x rem p) where
  abbrev f : ℕ
  f = fingerprint h.qbits h.rbits hash

  abbrev m : ℕ
  m = slots h.qbits

  abbrev v : Views
  v = views_in h s

  abbrev counts : List ℕ → ℕ → ℕ
  counts l = many (slots h.qbits) (2 ^ h.rbits) l

  abbrev cap : ℕ
  cap = capacity h.qbits

  spot : (l : List ℕ) → Shows h s l → SpotIn m (counts l) (f / 2 ^ h.rbits) (f % 2 ^ h.rbits) (run (2 ^ h.rbits) l (f / 2 ^ h.rbits)) p
  spot l w = rw (ex, er) at (sp.right l w)

  counted_all : (l : List ℕ) → Shows h s l → p.copies ≡ copies f l
  counted_all l w = (spot l w).met ∙ sym (copies_run (2 ^ h.rbits) (pow_pos h.rbits) f l)

  pub core_enough : most ≤ p.copies → InsertsCore h len hash most s (Ok (Enough most)) s
  core_enough q = record {
    right = λ l w n.
        let enough : most ≤ copies f l = omega (arith, counted_all l w) in
        let held = enough_held cap most f l enough in
        record {
          refused = λ z. absurd (omega (arith, enough_due cap most f l enough));
          done = λ _. (same_answer (sym (enough_answer cap most f l enough)) (sym n ∙ ap length (sym held)), rw held w);
        };
    kept = λ k z. refl;
    below = tt;
    looks = λ z. (ap (λ c. Ok (Enough c)) z, refl);
    tail = refl;
  }

  module _ (q : p.copies < most) where
    fewer_held : (l : List ℕ) → Shows h s l → copies f l < most
    fewer_held l w = omega (arith, counted_all l w)

    -- max_count is not 0
    not_zero : {P : Type 0} → most ≡ 0 → P
    not_zero z = absurd (omega arith)

    pub core_full : capacity h.qbits ≤ len → InsertsCore h len hash most s (Err NoRoom) s
    core_full y = record {
      right = λ l w n.
          let due = full_due_lem cap most f l (fewer_held l w) (omega arith) in
          record { refused = λ _. (ap refuses (sym due), refl); done = λ z. absurd (omega arith) };
      kept = λ k z. refl;
      below = tt;
      looks = not_zero;
      tail = refl;
    }

    -- the free slot that the walk found
    free : (l : List ℕ) (w : Shows h s l) → FirstFree m (counts l) x
    free l w = first_free m (counts l) (shown_runs h s l w x b).round x

    damaged : ((l : List ℕ) → Shows h s l → ⊥) → InsertsCore h len hash most s (Err NotSound) s
    damaged never = record { right = λ l w n. absurd (never l w); kept = λ k z. refl; below = tt; looks = not_zero; tail = refl }

    pub core_missed : FreeFrom m v x None → InsertsCore h len hash most s (Err NotSound) s
    core_missed k = damaged (λ l w. let z : ◌≡◌ {A = ℕ} 0 1 = cc (k.right (counts l) (shown_runs h s l w x b) w.image.offsets (free l w)) in omega arith)

    module _ (e : ℕ) (k : FreeFrom m v x (Some e)) where
      at_free : (l : List ℕ) (w : Shows h s l) → e ≡ (free l w).at
      at_free l w = cc (k.right (counts l) (shown_runs h s l w x b) w.image.offsets (free l w))

      pub core_before : e < p.slot → InsertsCore h len hash most s (Err NotSound) s
      core_before y = damaged (λ l w. omega (arith, at_free l w, run_before m (counts l) x (free l w), (sp.right l w).at, place_le rem (run (2 ^ h.rbits) l x), many_at m (2 ^ h.rbits) l x b))

      module _ (t : List ℕ) (y : Wrote h.rbits m (blocks h.qbits) x p.slot p.bit_slot e rem p.bit (le s) (le t))
          (room-left : len < capacity h.qbits) where
        shows : (l : List ℕ) → Shows h s l → length l ≡ len → Shows h t (more f l)
        shows l w n =
            let u = fingerprint_lt h.qbits h.rbits hash in
            let few : suc (length l) < m = omega (arith, capacity_lt h.qbits low) in
            let a = spot l w in
            record {
              holding = more_holding m (2 ^ h.rbits) f l w.holding u few;
              image = written_image h.rbits m (blocks h.qbits) (slots_blocks h.qbits low) l f w.holding u few p.slot p.bit_slot e p.bit a.bit_place (le s) (le t)
                  (rw ex at b) a.at a.bit_at (same_room l w u few) a.bit_is (rw (ex, er) at y) w.image;
            }
          where
            same_room : (l : List ℕ) (w : Shows h s l) (u : f < m * 2 ^ h.rbits) (few : suc (length l) < m) → e ≡ (room m (2 ^ h.rbits) (pow_pos h.rbits) l f w.holding u few).at
            same_room l w u few =
                let z = room m (2 ^ h.rbits) (pow_pos h.rbits) l f w.holding u few in
                let k' = rw ex at k in
                cc (k'.right (counts l) (shown_runs h s l w x b) w.image.offsets z)

        pub core_added : InsertsCore h len hash most s (Ok (Added p.copies)) t
        core_added = record {
          right = λ l w n.
              let few = fewer_held l w in
              let held = more_held cap most f l few in
              record {
                refused = λ z. absurd (omega (arith, room_due cap most f l (omega arith)));
                done = λ _. (
                  same_answer (counted_all l w ∙ sym (more_answer cap most f l few)) (omega (arith, ap length held, more_length f l)),
                  rw held (shows l w n),
                );
              };
          kept = λ k z. let y : ◌≡◌ {A = ℕ} 0 1 = cc in absurd (omega arith);
          below = room-left;
          looks = not_zero;
          tail = tail_was h.rbits m (blocks h.qbits) x p.slot p.bit_slot e rem p.bit (le s) (le t) (slots_blocks h.qbits low) b y;
        }
