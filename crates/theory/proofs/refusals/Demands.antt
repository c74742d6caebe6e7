-- Two sound filters are equal in len and bytes exactly if they hold every fingerprint equally often. Assumes nothing.
use Rattle.std.specs.Prelude.{ℕ, ◌*◌, ◌^◌, ◌≤◌, ◌<◌, ◌≡◌, refl, List, [], ◌∷◌, length}
use Rattle.std.proofs.Common.{sym, ap, ◌∙◌, arith}
use Rattle.std.proofs.Math.Decide.{dec_lt, ℕ_discrete}
use Rattle.theory.specs.tools.Choose.{choose_no}
use Rattle.theory.specs.Holding.{Under, copies}
use Rattle.theory.specs.list.Copies.{copies_tell}
use Rattle.theory.specs.Shape.{slots}
use Rattle.theory.specs.Image.{image}
use Rattle.theory.proofs.images.ImageViews.{image_tells}
use Rattle.theory.specs.refusals.ByNumber.{none_due}
use Rattle.theory.specs.Sound.{Sound, Holds}

-- ---- equal buffers hold the same, and the same makes equal buffers
copies_above : (b f : ℕ) (l : List ℕ) → Under b l → b ≤ f → copies f l ≡ 0
unfolding Under copies
copies_above b f [] u h = refl
copies_above b f (g ∷ l) u h = choose_no (ℕ_discrete g f) _ _ (λ e. omega (arith, u.0)) ∙ copies_above b f l u.1 h

-- two filters of the same widths that are sound hold every fingerprint equally often exactly if len and buffer are equal
module _ (q r len len' mx mx' : ℕ) (s s' : List ℕ) (a : Sound q r len mx s) (b : Sound q r len' mx' s') (l l' : List ℕ) (h : Holds q r len s l) (h' : Holds q r len' s' l') where
  pub equal_held : len ≡ len' → s ≡ s' → (f : ℕ) → copies f l ≡ copies f l'
  equal_held _ e f =
      ap (copies f) (image_tells q r (none_due q r len mx (length s) a.none).widths.low l l' h.holding h'.holding (sym h.bytes ∙ e ∙ h'.bytes))

  pub held_equal : ((f : ℕ) → f < slots q * 2 ^ r → copies f l ≡ copies f l') → (len ≡ len') × (s ≡ s')
  held_equal c = (sym h.many ∙ ap length e ∙ h'.many, h.bytes ∙ ap (image q r) e ∙ sym h'.bytes)
    where
      all : (f : ℕ) → Dec (f < slots q * 2 ^ r) → copies f l ≡ copies f l'
      all f (yes k) = c f k
      all f (no k) = copies_above (slots q * 2 ^ r) f l h.holding.under (omega arith) ∙ sym (copies_above (slots q * 2 ^ r) f l' h'.holding.under (omega arith))

      e : l ≡ l'
      e = copies_tell l l' h.holding.ascending h'.holding.ascending (λ f. all f (dec_lt f (slots q * 2 ^ r)))
