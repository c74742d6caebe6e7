-- The views of the image are those that `Image` gives the holding, and two holdings with one image are equal. Assumes nothing.
use Rattle.std.specs.Prelude.{ℕ, ◌*◌, ◌%◌, ◌^◌, ◌≤◌, ◌<◌, ◌≡◌, List}
use Rattle.std.proofs.Common.{sym, ap, ◌∙◌, arith, pow_pos}
use Rattle.theory.specs.number.Bytes.{le, to_bytes}
use Rattle.theory.specs.Holding.{run, Holding}
use Rattle.theory.specs.list.Runs.{under_at, run_under}
use Rattle.theory.specs.Shape.{blocks, slots}
use Rattle.theory.specs.Image.{last, image, run_at, occ, rest_at, many, views_of}
use Rattle.theory.specs.images.Block.{views}
use Rattle.theory.specs.images.ViewBytes.{bytes_views, Fitting}
use Rattle.theory.specs.images.LaidOut.{cell_all, cell_filled}
use Rattle.theory.specs.images.Filled.{Filled}
use Rattle.theory.specs.images.Sizes.{slots_blocks, slots_pos}
use Rattle.theory.specs.images.ByViews.{Same, one_holding, filled_as}
use Prim.Native.Nat.{ℕ, suc, ◌-◌, ◌*◌, ◌%◌, ◌≤◌, ◌<◌}
use Rattle.std.specs.Prelude.{◌≡◌, List}
use Rattle.std.proofs.Math.Path.{sym, ap}
use Rattle.std.proofs.Common.{◌∙◌}
use native.Mathlib.Omega.{arith}
use Rattle.std.proofs.Math.Nat.{add-mod_right}
use Rattle.std.proofs.Math.ListN.{get_or}
use Rattle.theory.specs.Image.{views_of, run_at, many, last, rest_at}
use Rattle.theory.specs.images.Filled.{Filled}
use Rattle.theory.specs.images.ByViews.{many_round}

-- the runend bits and the remainders that `Image` gives a holding
module _ (m R : ℕ) (l : List ℕ) (pos : 0 < R) (h : Holding m R l) where
  pub ends_filled : Filled m (many m R l) (last (many m R l)) (λ t. (views_of m R l).runend (t % m))
  unfolding views_of last
  ends_filled = cell_filled m (many m R l) (many_round m R l pos h) (last (many m R l)) (λ x j. ap (λ z. 1 - (z - suc j)) ((many_round m R l pos h).per x))

  pub rests_filled : Filled m (many m R l) (rest_at m R l) (λ t. (views_of m R l).remainder (t % m))
  unfolding views_of rest_at run_at
  rests_filled = cell_filled m (many m R l) (many_round m R l pos h) (rest_at m R l) (λ x j. ap (λ z. get_or (run R l z) j 0) (add-mod_right x m))

-- the views of a holding fit their fields
views_fit : (r m : ℕ) (l : List ℕ) → 0 < m → Fitting r m (views_of m (2 ^ r) l)
unfolding views_of occ last rest_at run_at many
views_fit r m l p = record {
  occupied = λ s b. omega arith;
  runend = λ s b. cell_all (λ z. z < 2) m (many m (2 ^ r) l) (last (many m (2 ^ r) l)) (omega arith) m (λ x b j k. omega arith) s;
  remainder = λ s b. cell_all (λ z. z < 2 ^ r) m (many m (2 ^ r) l) (rest_at m (2 ^ r) l) (pow_pos r) m
      (λ x b j k. under_at (2 ^ r) (run (2 ^ r) l (x % m)) j (run_under (2 ^ r) (pow_pos r) l (x % m)) k) s;
  offset = λ b d. omega arith;
}

-- its views are those that `Image` gives the holding
pub image_same : (q r : ℕ) (l : List ℕ) → 6 ≤ q → Same (slots q) (views r (le (image q r l))) (views_of (slots q) (2 ^ r) l)
unfolding image
image_same q r l h =
    let e : slots q ≡ 64 * blocks q = slots_blocks q h in
    rw e (bytes_views r (views_of (64 * blocks q) (2 ^ r) l) (blocks q) (to_bytes 8 0) (views_fit r (64 * blocks q) l (rw e at (slots_pos q))))

-- its runend bits and its remainders stand in its bytes
module _ (q r : ℕ) (low : 6 ≤ q) (l : List ℕ) (h : Holding (slots q) (2 ^ r) l) where
  pub image_ends : Filled (slots q) (many (slots q) (2 ^ r) l) (last (many (slots q) (2 ^ r) l)) (λ t. (views r (le (image q r l))).runend (t % slots q))
  image_ends = filled_as (slots q) _ _ _ _ (slots_pos q) (image_same q r l low).runends (ends_filled (slots q) (2 ^ r) l (pow_pos r) h)

  pub image_rests : Filled (slots q) (many (slots q) (2 ^ r) l) (rest_at (slots q) (2 ^ r) l) (λ t. (views r (le (image q r l))).remainder (t % slots q))
  image_rests = filled_as (slots q) _ _ _ _ (slots_pos q) (image_same q r l low).remainders (rests_filled (slots q) (2 ^ r) l (pow_pos r) h)

-- two holdings with one image are equal: the list held is a function of the buffer
pub image_tells : (q r : ℕ) → 6 ≤ q → (l l' : List ℕ) → Holding (slots q) (2 ^ r) l → Holding (slots q) (2 ^ r) l' → image q r l ≡ image q r l' → l ≡ l'
unfolding views_of
image_tells q r low l l' h h' e =
    one_holding (slots q) (2 ^ r) l l' _ _ (pow_pos r) h h' occupieds
    (rw e at (image_ends q r low l h)) (image_ends q r low l' h') (rw e at (image_rests q r low l h)) (image_rests q r low l' h')
  where
    occupieds : (x : ℕ) → x < slots q → occ (many (slots q) (2 ^ r) l) x ≡ occ (many (slots q) (2 ^ r) l') x
    occupieds x b = sym ((image_same q r l low).occupieds x b) ∙ ap (λ s. (views r (le s)).occupied x) e ∙ (image_same q r l' low).occupieds x b
