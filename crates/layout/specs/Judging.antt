-- What follows of a verdict: the check's answer is one, and it is what a checked call needs. Assumes nothing.
use Rattle.std.specs.Prelude.{Result, Ok, Err, ℕ, ◌+◌, ◌≤◌, ◌≡◌, ◌≢◌, List, length}
use Rattle.std.proofs.Common.{sym, ap, subst, inl, inr, arith}
use Rattle.theory.specs.Shape.{capacity, blocks}
use Rattle.theory.specs.number.Bytes.{Bytes}
use Rattle.theory.specs.check.Step.{Cursor, begin, Answer}
use Rattle.theory.specs.check.Buffer.{steps_on}
use Rattle.theory.proofs.check.Decides.{answer_holds, holds_answer}
use Rattle.theory.specs.refusals.ByNumber.{Clear, none_due}
use Rattle.layout.specs.declared.numbers.Numbers.{Numbers}
use Rattle.layout.specs.declared.refusal.Refusal.{Refusal}
use Rattle.layout.specs.Refusals.{number, number_some}
use Rattle.layout.specs.Whole.{Whole}
use Rattle.layout.specs.Records.{shape_of, lowest_due, SoundOf, HoldsOf, Within, Keeps, CheckedOn, CheckedBoth, OneFamily, QuickOn}
use Rattle.layout.specs.Verdicts.{Judged, JudgedBoth, Answered}

-- where none of 1 to 5 is due: what that says of each number
pub clear_of : (n : Numbers) (s : List ℕ) → lowest_due n s ≡ 0 → Clear n.qbits n.rbits n.len n.max_qbits (length s)
clear_of n s e = none_due n.qbits n.rbits n.len n.max_qbits (length s) e

-- then len does not pass capacity: of a sound filter, of a record that keeps to one, of the list held
pub clear_within : (n : Numbers) (s : List ℕ) → lowest_due n s ≡ 0 → Within n
clear_within n s e = (clear_of n s e).room

pub sound_within : (n : Numbers) (s : List ℕ) → SoundOf n s → Within n
sound_within n s y = clear_within n s y.none

pub keeps_within : (n n' : Numbers) → Keeps n n' → Within n'
keeps_within n n' k = subst (λ q. n'.len ≤ capacity q) (sym (ap (λ (x : Numbers). x.qbits) k.rest)) k.within

pub held_within : (n : Numbers) (s l : List ℕ) → lowest_due n s ≡ 0 → HoldsOf n s l → length l ≤ capacity n.qbits
held_within n s l e h = omega (arith, clear_within n s e, h.many)

-- what the cursor says after two rounds from the beginning is the verdict
module _ (n : Numbers) (s : List ℕ) (b : Bytes s) (e : lowest_due n s ≡ 0) (k : ℕ) (c₀ c : Cursor)
    (two : k ≡ blocks n.qbits + blocks n.qbits) (from : c₀ ≡ begin) (is : c ≡ steps_on n.qbits n.rbits s k c₀) where
  whole : c ≡ steps_on n.qbits n.rbits s (blocks n.qbits + blocks n.qbits) begin
  whole = rw (two, from) at is

  pub judged : (v : Result Unit Refusal) → Answered (blocks n.qbits) n.len c v → Judged n s v
  judged (Ok _) a =
      let d = clear_of n s e in
      let p = answer_holds n.qbits n.rbits n.len d.widths s b d.size_is d.fewer (subst (Answer (blocks n.qbits) n.len) whole a) in
      record { none = e; held = p.0; holds = p.1 }
  judged (Err k) a =
      let d = clear_of n s e in
      inr (e, (λ h. a.0 (subst (Answer (blocks n.qbits) n.len) (sym whole) (holds_answer n.qbits n.rbits n.len d.widths s h.held h.holds))), a.1)

-- a checked call that begins with the check: refuse its number, or do what is right for the list held
module _ (n : Numbers) (s : List ℕ) (refused : ℕ → Type 0) (right : List ℕ → Type 0) where
  pub checked_refused : (k : Refusal) → Judged n s (Err k) → refused (number k) → CheckedOn n s refused right
  checked_refused k (inl p) x = record {
    early = λ h. subst refused p.1 x;
    damaged = λ e h. absurd (omega arith);
    sound = λ e l h. absurd (omega arith);
  }
  checked_refused k (inr p) x = record {
    early = λ h. absurd (omega arith);
    damaged = λ e h. subst refused p.2 x;
    sound = λ e l h. absurd (p.1 (record { none = e; held = l; holds = h }));
  }

  pub checked_sound : SoundOf n s → ((l : List ℕ) → HoldsOf n s l → right l)
      → CheckedOn n s refused right
  checked_sound a f = record { early = λ h. absurd (omega (arith, a.none)); damaged = λ e h. absurd (h a); sound = λ e l h. f l h }

-- the first filter is sound, and the second is judged
pub judged_then : (n : Numbers) (s : List ℕ) (m : Numbers) (o : List ℕ) → SoundOf n s → (v : Result Unit Refusal) → Judged m o v → JudgedBoth n s m o v
judged_then n s m o h (Ok _) a = (h, a)
judged_then n s m o h (Err k) a = inr (h, a)

-- a checked call on two filters that begins with the check of both
module _ (n : Numbers) (s : List ℕ) (m : Numbers) (o : List ℕ) (refused : ℕ → Type 0) (right : List ℕ → List ℕ → Type 0) where
  pub both_refused : (k : Refusal) → JudgedBoth n s m o (Err k) → refused (number k) → CheckedBoth n s m o refused right
  both_refused k (inl p) x = checked_refused n s refused _ k p x
  both_refused k (inr p) x = checked_sound n s refused _ p.0 (λ la h. checked_refused m o refused (right la) k p.1 x)

  pub both_sound : SoundOf n s × SoundOf m o → ((la lb : List ℕ) → HoldsOf n s la → HoldsOf m o lb → right la lb) → CheckedBoth n s m o refused right
  both_sound p f = checked_sound n s refused _ p.0 (λ la h. checked_sound m o refused (right la) p.1 (λ lb g. f la lb h g))

-- filters of two families, and of one
module _ (n m : Numbers) (refused : ℕ → Type 0) (right : Type 0) where
  pub two_families : n.family ≢ m.family → refused 19 → OneFamily n m refused right
  two_families h x = record { differ = λ _. x; same = λ e. absurd (h e) }

  pub one_family : n.family ≡ m.family → right → OneFamily n m refused right
  one_family e y = record { differ = λ h. absurd (h e); same = λ _. y }

-- a quick call that asks 1 to 5: refuse the number, or work
module _ (n : Numbers) (s : List ℕ) (refused : ℕ → Type 0) (right : List ℕ → Type 0) (left : Type 0) where
  pub quick_refused : (k : Refusal) → lowest_due n s ≡ number k → refused (number k) → left → QuickOn n s refused right left
  quick_refused k e x y = record { early = λ h. subst refused (sym e) x; sound = λ z l h. absurd (omega (arith, number_some k)); other = y }

  pub quick_worked : lowest_due n s ≡ 0 → ((l : List ℕ) → HoldsOf n s l → right l) → left
      → QuickOn n s refused right left
  quick_worked e f y = record { early = λ h. absurd (omega arith); sound = λ z l h. f l h; other = y }

-- where none of 1 to 5 is due, the widths are allowed and the buffer is whole
pub clear_whole : (n : Numbers) (s : List ℕ) → lowest_due n s ≡ 0 → Whole (shape_of n) (length s)
clear_whole n s e =
    let d = clear_of n s e in
    record { widths = d.widths; fits = d.size_is }
