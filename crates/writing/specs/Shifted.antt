-- What the walks of a remove over the blocks answer: the last slot that is shifted, and the offset bytes told anew.
use Rattle.std.specs.Prelude.{Option, Some, None, Result, Ok, Err, IsOkUnless, ℕ, ◌+◌, ◌-◌, ◌*◌, ◌%◌, ◌≤◌, ◌<◌, min, ◌≡◌, refl}
use Rattle.std.proofs.Common.{sym, ap, ◌∙◌, arith, add-zero}
use Rattle.theory.specs.number.Field.{put}
use Rattle.theory.specs.Image.{Views, carry}
use Rattle.theory.specs.reading.BehindRun.{Runs}
use Rattle.theory.specs.images.Block.{views, block}
use Rattle.theory.specs.writing.RaisedOffsets.{OffApart, off_none, off_put, off_then}
use Rattle.theory.specs.reading.Offsets.{Offsets, carry_here, carry_behind}
use Rattle.theory.specs.reading.LastShifted.{LastShifted, CarriedBehind, pushed_on, nothing_carried, shifted_at, pushed_round}
use Rattle.theory.specs.writing.RenewedOffsets.{Renewed, renewed_none, renewed_next, runs_apart}
use Rattle.layout.specs.declared.refusal.Refusal.{Refusal}
use Rattle.layout.specs.declared.refusal.Refusal.TheVariants.{NotSound}
use Rattle.filter.specs.Runs.{NextCarry, PastRun, Within}
use Rattle.filter.specs.Offsets.{missed}

-- the last slot that is shifted from slot x on, not taken round the end
pub record ShiftedFrom (m : ℕ) (v : Views) (x : ℕ) (f : Option ℕ) : Type 0 where
  pub right : (n : ℕ → ℕ) → Runs m n v → Offsets m n v → (e : ℕ) → LastShifted m n x e → f ≡ Some e
  pub bound : Within x (x + m - 1) f

-- the walk to it: behind all slots from x to before s something is carried
abbrev pub Moving : ℕ → Views → ℕ → ℕ → Type 0
Moving m v x s = (n : ℕ → ℕ) → Runs m n v → Offsets m n v → CarriedBehind m n x s

module _ (m : ℕ) (v : Views) (x s : ℕ) (h : Moving m v x s) where
  pub moving_end : (gap : ℕ) → x ≤ s → s < x + m → PastRun m v s (Some gap) → gap ≡ 1 → ShiftedFrom m v x (Some s)
  moving_end gap a b d one = record {
    right = λ n w f e z. ap Some (shifted_at m n x s (h n w f) e z a (nothing_carried m n x s (h n w f) gap (cc (d.right n w f)) one));
    bound = (omega arith, omega arith);
  }

  pub moving_on : (gap : ℕ) → PastRun m v s (Some gap) → Moving m v x (s + (gap - 1))
  moving_on gap d n w f = pushed_on m n x s (h n w f) gap (cc (d.right n w f))

  pub moving_missed : PastRun m v s None → ShiftedFrom m v x None
  moving_missed d = record { right = λ n w f e z. absurd (missed m v s d n w f); bound = tt }

pub moving_none : (m : ℕ) (v : Views) (x : ℕ) → Moving m v x x
moving_none m v x n w f y a b = absurd (omega arith)

pub moving_round : (m : ℕ) (v : Views) (x s : ℕ) → Moving m v x s → x + m ≤ s → ShiftedFrom m v x None
moving_round m v x s h l = record { right = λ n w f e z. absurd (pushed_round m n x s (h n w f) e z l); bound = tt }

-- the offsets of the k blocks behind block a told anew, from the carry o before block a, or 6; nothing else changes
pub record Renews (r m B a k o x : ℕ) (a' : Result Unit Refusal) (x' : ℕ) : Type 0 where
  pub right : (n : ℕ → ℕ) → Runs m n (views r x) → o ≡ carry m n (64 * a) → k ≤ B → (a' ≡ Ok tt) × Renewed r m B a k n x x'
  pub damaged : IsOkUnless a' NotSound
  pub apart : OffApart r B x x'

-- j of them are, and c is the carry before the block reached
pub record Renewing (r m B a k o x j c y : ℕ) : Type 0 where
  pub right : (n : ℕ → ℕ) → Runs m n (views r x) → o ≡ carry m n (64 * a) → k ≤ B → (c ≡ carry m n (64 * (a + j))) × Renewed r m B a j n x y
  pub apart : OffApart r B x y

pub renewing_none : (r m B a k o x : ℕ) → Renewing r m B a k o x 0 o x
renewing_none r m B a k o x = record {
  right = λ n w e l. (e ∙ ap (λ z. carry m n (64 * z)) (sym (add-zero a)), renewed_none r m B a n x);
  apart = off_none r B x;
}

module _ (r m B a k o x j c y : ℕ) (whole : m ≡ 64 * B) (w : Renewing r m B a k o x j c y) where
  -- what the step to the next block tells
  stepped : (f : Option ℕ) → NextCarry m (views r y) ((a + j) % B) c f → (n : ℕ → ℕ) → Runs m n (views r x) → o ≡ carry m n (64 * a) → k ≤ B → f ≡ Some (carry m n (64 * (a + j + 1)))
  stepped f d n g e l =
      d.right n (runs_apart r m B n x y w.apart g) ((w.right n g e l).0 ∙ carry_here m B whole n g.round (a + j)) ∙ ap Some (carry_behind m B whole n g.round (a + j))

  pub renews_missed : NextCarry m (views r y) ((a + j) % B) c None → Renews r m B a k o x (Err NotSound) y
  renews_missed d = record { right = λ n g e l. absurd (let z : ◌≡◌ {A = ℕ} 0 1 = cc (stepped None d n g e l) in omega arith); damaged = refl; apart = w.apart }

  pub renewing_on : (c' : ℕ) → NextCarry m (views r y) ((a + j) % B) c (Some c') → j < k → (a + j + 1) % B < B
      → Renewing r m B a k o x (j + 1) c' (put y (8 * block r ((a + j + 1) % B)) 8 (min c' 255))
  renewing_on c' d few in-round = record {
    right = λ n g e l.
        let z : a + (j + 1) ≡ a + j + 1 = omega arith in
        let t : c' ≡ carry m n (64 * (a + j + 1)) = cc (stepped (Some c') d n g e l) in
        (rw z t, renewed_next r m B a j n x y c' (omega arith) t (w.right n g e l).1);
    apart = off_then r B x y _ w.apart (off_put r B y ((a + j + 1) % B) (min c' 255) (omega arith) in-round);
  }

  pub renews_all : j ≡ k → Renews r m B a k o x (Ok tt) y
  renews_all e = record { right = λ n g f l. (refl, rw e at (w.right n g f l).1); damaged = tt; apart = w.apart }
