-- What the promises pin down: a checked call has one outcome at most; every holding of at most capacity is that of a sound filter. That two sound
-- filters are equal exactly if they hold the same is in proofs/refusals/Demands. Assumes nothing.
use Rattle.std.specs.Prelude.{ℕ, ◌^◌, ◌≤◌, ◌<◌, ◌≡◌, refl, ◌⊎◌, List, length}
use Rattle.std.proofs.Common.{inl, inr, arith, eq-zero-or-pos}
use Rattle.theory.specs.Holding.{Holding}
use Rattle.theory.specs.Shape.{slots, capacity, Widths}
use Rattle.theory.specs.Image.{image}
use Rattle.theory.specs.images.ImageBytes.{image_length}
use Rattle.theory.specs.refusals.SoundDecided.{sound_dec}
use Rattle.theory.specs.refusals.ByNumber.{clear, clear_none, max_absent, due_most}
use Rattle.theory.specs.Refusal.{due}
use Rattle.theory.specs.Sound.{Quick, Sound, Holds, Checked}

-- ---- one outcome
-- An outcome is all that a call answers and leaves. Where `refused k` pins it for each number k, and `right l` for each list l that may be held,
-- two outcomes that both keep the promise of a checked call coincide. For a quick call the same holds where a number is due or the buffer is sound.
module _ {O : Type 0} (refused : ℕ → O → Type 0) (right : List ℕ → O → Type 0) (q r len mx : ℕ) (s : List ℕ)
    (one : (k : ℕ) (a b : O) → refused k a → refused k b → a ≡ b)
    (same : (l : List ℕ) → Holds q r len s l → (a b : O) → right l a → right l b → a ≡ b) where
  pub checked_one : (a b : O) → Checked q r len mx s (λ k. refused k a) (λ l. right l a) → Checked q r len mx s (λ k. refused k b) (λ l. right l b) → a ≡ b
  checked_one a b p p' = go (eq-zero-or-pos (due q r len mx (length s))) (sound_dec q r len mx s)
    where
      go : (due q r len mx (length s) ≡ 0) ⊎ (0 < due q r len mx (length s)) → Dec (Sound q r len mx s) → a ≡ b
      go (inr h) y = one _ a b (p.early h) (p'.early h)
      go (inl e) (no h) = one _ a b (p.damaged e h) (p'.damaged e h)
      go (inl e) (yes h) = same h.held h.holds a b (p.sound e h.held h.holds) (p'.sound e h.held h.holds)

  pub quick_one : (left : O → Type 0) → (0 < due q r len mx (length s)) ⊎ Sound q r len mx s
      → (a b : O) → Quick q r len mx s (λ k. refused k a) (λ l. right l a) (left a) → Quick q r len mx s (λ k. refused k b) (λ l. right l b) (left b) → a ≡ b
  quick_one left (inl h) a b p p' = one _ a b (p.early h) (p'.early h)
  quick_one left (inr h) a b p p' = same h.held h.holds a b (p.sound h.none h.held h.holds) (p'.sound h.none h.held h.holds)

  -- there a quick call and a checked one have the same outcome
  pub quick_checked : (left : O → Type 0) → (0 < due q r len mx (length s)) ⊎ Sound q r len mx s
      → (a b : O) → Quick q r len mx s (λ k. refused k a) (λ l. right l a) (left a) → Checked q r len mx s (λ k. refused k b) (λ l. right l b) → a ≡ b
  quick_checked left (inl h) a b p p' = one _ a b (p.early h) (p'.early h)
  quick_checked left (inr h) a b p p' = same h.held h.holds a b (p.sound h.none h.held h.holds) (p'.sound h.none h.held h.holds)

-- ---- a checked call that is not refused with one of 1 to 6, or not at all: the filter is sound, and what is right for the list held was done
pub not_early : (q r len mx : ℕ) (s : List ℕ) (refused : ℕ → Type 0) (right : List ℕ → Type 0) → Checked q r len mx s refused right → ((k : ℕ) → k ≤ 6 → refused k → ⊥)
    → (h : Sound q r len mx s) × right h.held
not_early q r len mx s refused right p never = go (eq-zero-or-pos (due q r len mx (length s))) (sound_dec q r len mx s)
  where
    go : (due q r len mx (length s) ≡ 0) ⊎ (0 < due q r len mx (length s)) → Dec (Sound q r len mx s) → (h : Sound q r len mx s) × right h.held
    go (inr d) y = absurd (never _ (omega (arith, due_most q r len mx (length s))) (p.early d))
    go (inl e) (no y) = absurd (never _ (omega arith) (p.damaged e y))
    go (inl e) (yes y) = (y, p.sound e y.held y.holds)

pub not_refused : (q r len mx : ℕ) (s : List ℕ) (refused : ℕ → Type 0) (right : List ℕ → Type 0) → Checked q r len mx s refused right → ((k : ℕ) → refused k → ⊥)
    → (h : Sound q r len mx s) × right h.held
not_refused q r len mx s refused right p never = not_early q r len mx s refused right p (λ k _. never k)

-- ---- every holding of at most capacity has a sound buffer
pub a_filter : (q r : ℕ) (l : List ℕ) → Widths q r → Holding (slots q) (2 ^ r) l → length l ≤ capacity q → Sound q r (length l) 0 (image q r l)
a_filter q r l w h room = record {
  none = clear_none q r (length l) 0 (length (image q r l)) (clear w (image_length q r l) room (max_absent q r 0 refl));
  held = l;
  holds = record { holding = h; many = refl; bytes = refl };
}
