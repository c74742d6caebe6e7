-- What insert, remove and merge leave is a holding again, and what insert and remove leave does not pass capacity. Assumes nothing.
use Prim.Native.Nat.{ℕ, zero, suc, ◌+◌, ◌*◌, ◌^◌, ◌≤◌, ◌<◌}
use Rattle.std.specs.Prelude.{◌≡◌, ◌⊎◌, length}
use Rattle.std.proofs.Common.{inl, inr, arith, eq-zero-or-pos, mod-lt, pow_pos}
use mathlib.Core.List.{List, [], ◌∷◌, map}
use Rattle.theory.specs.Shape.{fingerprint}
use Rattle.theory.specs.Holding.{Holding, Ascending, Under, copies, more, fewer}
use Rattle.theory.specs.Changing.{insert_due, inserted}
use Rattle.theory.specs.Joining.{added, added_once, joined, taken}
use Rattle.theory.specs.list.Adding.{added_keeps, once_keeps}
use Rattle.theory.specs.list.RuleCases.{due_none, fewer_absent}
use Rattle.theory.specs.list.Fewer.{fewer_most}
use Rattle.theory.specs.list.More.{more_ascending, more_under, more_length}
use Rattle.theory.specs.writing.OneMore.{more_holding}
use Rattle.theory.specs.writing.Removing.{fewer_holding}

-- ---- insert, where 7 is not due, and remove
module _ (m R f : ℕ) (l : List ℕ) (h : Holding m R l) where
  pub inserted_holding : (capacity most : ℕ) → capacity < m → f < m * R → insert_due capacity most f l ≡ 0 → Holding m R (inserted most f l)
  inserted_holding capacity most c u e = go (due_none capacity most f l e)
    where
      go : (inserted most f l ≡ l) ⊎ ((inserted most f l ≡ more f l) × (length l < capacity)) → Holding m R (inserted most f l)
      go (inl z) = rw z h
      go (inr z) = rw z.0 (more_holding m R f l h u (omega (arith, z.1)))

  pub removed_holding : 0 < R → Holding m R (fewer f l)
  removed_holding pos = go (eq-zero-or-pos (copies f l))
    where
      go : (copies f l ≡ 0) ⊎ (0 < copies f l) → Holding m R (fewer f l)
      go (inl z) = rw (fewer_absent f l z) h
      go (inr z) = fewer_holding m R pos f l h z

-- ---- neither passes capacity
module _ (capacity f : ℕ) (l : List ℕ) (room : length l ≤ capacity) where
  pub inserted_room : (most : ℕ) → insert_due capacity most f l ≡ 0 → length (inserted most f l) ≤ capacity
  inserted_room most e = go (due_none capacity most f l e)
    where
      go : (inserted most f l ≡ l) ⊎ ((inserted most f l ≡ more f l) × (length l < capacity)) → length (inserted most f l) ≤ capacity
      go (inl z) = rw z room
      go (inr z) = rw z.0 (omega (arith, more_length f l, z.1))

  pub removed_room : length (fewer f l) ≤ capacity
  removed_room = omega (arith, fewer_most f l)

-- ---- merge
-- all of b added to a, or absent ones once each: ascending, and of the width that both have
abbrev Fits : ℕ → List ℕ → Type 0
Fits w l = Ascending l × Under w l

fits_more : (w f : ℕ) (a b : List ℕ) → Under w (f ∷ b) → Fits w a → Fits w (more f a)
unfolding Under
fits_more w f a b u p = (more_ascending f a p.0, more_under w f a u.0 p.1)

under_tail : (w f : ℕ) (b : List ℕ) → Under w (f ∷ b) → Under w b
unfolding Under
under_tail w f b u = u.1

module _ (w : ℕ) (a b : List ℕ) (u : Under w b) where
  fits_added : Fits w a → Fits w (added a b)
  fits_added = added_keeps (Fits w) (Under w) (under_tail w) (fits_more w) a b u

  fits_once : Fits w a → Fits w (added_once a b)
  fits_once = once_keeps (Fits w) (Under w) (under_tail w) (fits_more w) a b u

-- a fingerprint is of the width that it is cut to
cut_under : (q r : ℕ) (b : List ℕ) → Under (2 ^ (q + r)) (map (fingerprint q r) b)
unfolding Under fingerprint
cut_under q r [] = tt
cut_under q r (f ∷ b) = (mod-lt f (pow_pos (q + r)), cut_under q r b)

module _ (m R : ℕ) (a b : List ℕ) (h : Ascending a) (ua : Under (m * R) a) where
  pub joined_holding : (keep : ℕ) → Under (m * R) b → length (joined keep a b) < m → Holding m R (joined keep a b)
  unfolding joined Ascending Under
  joined_holding zero ub few =
      let p = fits_once (m * R) (added_once [] a) b ub (fits_once (m * R) [] a ua (tt, tt)) in
      record { ascending = p.0; under = p.1; fewer = few }
  joined_holding (suc keep) ub few =
      let p = fits_added (m * R) a b ub (h, ua) in
      record { ascending = p.0; under = p.1; fewer = few }

  -- other wider: cut to the width q + r first
  pub taken_holding : (keep q r : ℕ) → m * R ≡ 2 ^ (q + r) → length (taken keep q r a b) < m → Holding m R (taken keep q r a b)
  unfolding taken
  taken_holding zero q r e few =
      let p = fits_once (m * R) a (map (fingerprint q r) b) (rw e (cut_under q r b)) (h, ua) in
      record { ascending = p.0; under = p.1; fewer = few }
  taken_holding (suc keep) q r e few =
      let p = fits_added (m * R) a (map (fingerprint q r) b) (rw e (cut_under q r b)) (h, ua) in
      record { ascending = p.0; under = p.1; fewer = few }
