-- Offset bytes counted up by one, as far as 255, for k blocks in a row, round the end: the loop of insert. Assumes nothing.
use Prim.Native.Nat.{ℕ, zero, suc, ◌+◌, ◌-◌, ◌*◌, ◌%◌, ◌^◌, ◌≤◌, ◌<◌, min}
use Rattle.std.specs.Prelude.{◌≡◌, ◌≢◌}
use Rattle.std.proofs.Math.Path.{refl}
use Rattle.std.proofs.Common.{sym, ap, ◌∙◌, arith, mod-lt, add-one}
use Rattle.std.proofs.Math.Decide.{ℕ_discrete}
use Rattle.theory.specs.number.Field.{put}
use Rattle.theory.specs.carry.Carry.{mod_window}
use Rattle.theory.specs.images.Block.{cell_at, offset_same, offset_tail, offset_other, offset_cell, offset_at, block, tail_at, Area}
use Rattle.theory.specs.writing.Slide.{one_on}

-- what writes to offset bytes leave alone
pub record OffApart (r B x x' : ℕ) : Type 0 where
  pub cells : (d w : ℕ) → Area r d w → (t : ℕ) → cell_at r d w x' t ≡ cell_at r d w x t
  pub tail : tail_at r B x' ≡ tail_at r B x

pub off_none : (r B x : ℕ) → OffApart r B x x
off_none r B x = record { cells = λ d w a t. refl; tail = refl }

pub off_put : (r B x b v : ℕ) → v < 2 ^ 8 → b < B → OffApart r B x (put x (8 * block r b) 8 v)
off_put r B x b v h l = record { cells = offset_cell r x b v h; tail = offset_tail r x b v h B l }

pub off_then : (r B x y z : ℕ) → OffApart r B x y → OffApart r B y z → OffApart r B x z
off_then r B x y z a b = record { cells = λ d w p t. b.cells d w p t ∙ a.cells d w p t; tail = b.tail ∙ a.tail }

-- blocks a + 1 .. a + k
unfoldable pub bump : ℕ → ℕ → ℕ → ℕ → ℕ → ℕ
bump r B a zero x = x
bump r B a (suc k) x = bump r B (suc a) k (put x (8 * block r (suc a % B)) 8 (min (offset_at r x (suc a % B) + 1) 255))

module _ (r B : ℕ) (pos : 0 < B) where
  small : (y : ℕ) → min y 255 < 2 ^ 8
  small y = omega arith

  pub bump_apart : (a k x : ℕ) → OffApart r B x (bump r B a k x)
  unfolding bump
  bump_apart a zero x = off_none r B x
  bump_apart a (suc k) x =
      off_then r B x _ _ (off_put r B x (suc a % B) _ (small _) (mod-lt (suc a) pos)) (bump_apart (suc a) k _)

  pub bump_out : (a k x c : ℕ) → ((j : ℕ) → 1 ≤ j → j ≤ k → (a + j) % B ≢ c) → offset_at r (bump r B a k x) c ≡ offset_at r x c
  unfolding bump
  bump_out a zero x c h = refl
  bump_out a (suc k) x c h =
      bump_out (suc a) k _ c (λ j l i z. h (suc j) (omega arith) (omega arith) (ap (λ y. y % B) (one_on a j) ∙ z))
      ∙ offset_other r x (suc a % B) _ (small _) c (λ z. h 1 (omega arith) (omega arith) (ap (λ y. y % B) (add-one a) ∙ z))

  pub bump_in : (a k x j : ℕ) → k ≤ B → 1 ≤ j → j ≤ k → offset_at r (bump r B a k x) ((a + j) % B) ≡ min (offset_at r x ((a + j) % B) + 1) 255
  unfolding bump
  bump_in a zero x j b l i = absurd (omega arith)
  bump_in a (suc k) x j b l i = go (ℕ_discrete j 1) (λ h. bump_in (suc a) k _ (j - 1) (omega arith) (omega arith) (omega arith))
    where
      y : ℕ
      y = put x (8 * block r (suc a % B)) 8 (min (offset_at r x (suc a % B) + 1) 255)

      apart : (i : ℕ) → 1 ≤ i → i ≤ k → (suc a + i) % B ≢ suc a % B
      apart i p q e =
          let z : suc a + 0 ≡ suc a = omega arith in
          omega (arith, mod_window B (suc a) (suc a + i) (suc a + 0) (omega arith) (omega arith) (omega arith) (omega arith) (e ∙ sym (ap (λ u. u % B) z)))

      go : Dec (j ≡ 1) → (2 ≤ j → offset_at r (bump r B (suc a) k y) ((suc a + (j - 1)) % B) ≡ min (offset_at r y ((suc a + (j - 1)) % B) + 1) 255)
          → offset_at r (bump r B (suc a) k y) ((a + j) % B) ≡ min (offset_at r x ((a + j) % B) + 1) 255
      go (yes e) ih =
          let f : a + j ≡ suc a = omega arith in
          rw f (bump_out (suc a) k y (suc a % B) (λ i p q. apart i p q) ∙ offset_same r x (suc a % B) _ (small _))
      go (no e) ih =
          let f : a + j ≡ suc a + (j - 1) = omega arith in
          rw f (ih (omega arith)
          ∙ ap (λ u. min (u + 1) 255) (offset_other r x (suc a % B) _ (small _) ((suc a + (j - 1)) % B) (λ z. apart (j - 1) (omega arith) (omega arith) (sym z))))

-- as a loop meets it
pub bump_step : (r B a k x : ℕ) → 0 < k → bump r B a k x ≡ bump r B (a + 1) (k - 1) (put x (8 * block r ((a + 1) % B)) 8 (min (offset_at r x ((a + 1) % B) + 1) 255))
unfolding bump
bump_step r B a zero x h = absurd (omega (arith, h))
bump_step r B a (suc k) x h =
    let e : suc k - 1 ≡ k = omega arith in
    let f : a + 1 ≡ suc a = omega arith in
    rw (e, f) refl

pub bump_none : (r B a k x : ℕ) → k ≡ 0 → bump r B a k x ≡ x
unfolding bump
bump_none r B a k x e = rw e refl
