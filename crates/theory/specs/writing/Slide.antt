-- The cells of an area moved on by one slot, round the end, or back by one: the loops of insert and remove, and what they leave. Assumes nothing.
use Prim.Native.Nat.{ℕ, zero, suc, ◌+◌, ◌*◌, ◌%◌, ◌^◌, ◌≤◌, ◌<◌}
use Rattle.std.specs.Prelude.{◌≡◌, ◌≢◌}
use Rattle.std.proofs.Math.Path.{refl, sym}
use Rattle.std.proofs.Common.{ap, ◌∙◌, add-zero}
use native.Mathlib.Omega.{arith}
use Rattle.std.proofs.Math.Decide.{ℕ_discrete}
use Rattle.std.proofs.Math.Nat.{mod-lt}
use Rattle.theory.specs.number.Field.{field_lt}
use Rattle.theory.specs.carry.Carry.{mod_window}
use Rattle.theory.specs.images.Block.{put_cell, tail_at, cell_tail, offset_at, cell_at, cell_other, cell_before, cell_behind, Area, cell_offset, cell_same, spot}

-- what writes to one area leave alone: the areas before and behind it, the offset bytes and the last eight bytes
pub record Apart (r d w B x x' : ℕ) : Type 0 where
  pub before : (d' w' : ℕ) → Area r d' w' → d' + 8 * w' ≤ d → (t : ℕ) → cell_at r d' w' x' t ≡ cell_at r d' w' x t
  pub behind : (d' w' : ℕ) → Area r d' w' → d + 8 * w ≤ d' → (t : ℕ) → cell_at r d' w' x' t ≡ cell_at r d' w' x t
  pub offset : (b : ℕ) → offset_at r x' b ≡ offset_at r x b
  pub tail : tail_at r B x' ≡ tail_at r B x

pub apart_none : (r d w B x : ℕ) → Apart r d w B x x
apart_none r d w B x = record { before = λ d' w' a h t. refl; behind = λ d' w' a h t. refl; offset = λ b. refl; tail = refl }

pub apart_put : (r d w B : ℕ) → Area r d w → (x s v : ℕ) → v < 2 ^ w → s < 64 * B → Apart r d w B x (put_cell r d w x s v)
apart_put r d w B a x s v h l = record {
  before = cell_before r d w a x s v h;
  behind = cell_behind r d w a x s v h;
  offset = cell_offset r d w a x s v h;
  tail = cell_tail r d w a x s v h B l;
}

pub apart_then : (r d w B x y z : ℕ) → Apart r d w B x y → Apart r d w B y z → Apart r d w B x z
apart_then r d w B x y z a b = record {
  before = λ d' w' p h t. b.before d' w' p h t ∙ a.before d' w' p h t;
  behind = λ d' w' p h t. b.behind d' w' p h t ∙ a.behind d' w' p h t;
  offset = λ c. b.offset c ∙ a.offset c;
  tail = b.tail ∙ a.tail;
}

-- what stands in the cells is below 2 ^ w
cell_lt : (r d w x s : ℕ) → cell_at r d w x s < 2 ^ w
unfolding cell_at
cell_lt r d w x s = field_lt x (spot r d w s) w

-- slots less than a round apart are different
pub apart_slots : (m a j i : ℕ) → j < m → i < m → j ≢ i → (a + j) % m ≢ (a + i) % m
apart_slots m a j i hj hi ne e = ne (omega (arith, mod_window m a (a + j) (a + i) (omega arith) (omega arith) (omega arith) (omega arith) e))

pub one_on : (a j : ℕ) → a + suc j ≡ suc a + j
one_on a j = omega arith

-- the k cells from slot a on, each moved on by one, the last first
unfoldable pub slide_up : ℕ → ℕ → ℕ → ℕ → ℕ → ℕ → ℕ → ℕ
slide_up r d w m a zero x = x
slide_up r d w m a (suc k) x = slide_up r d w m a k (put_cell r d w x ((a + suc k) % m) (cell_at r d w x ((a + k) % m)))

-- the k cells behind slot a, each moved back by one, the first first
unfoldable pub slide_down : ℕ → ℕ → ℕ → ℕ → ℕ → ℕ → ℕ → ℕ
slide_down r d w m a zero x = x
slide_down r d w m a (suc k) x = slide_down r d w m (suc a) k (put_cell r d w x (a % m) (cell_at r d w x (suc a % m)))

module _ (r d w m B : ℕ) (ar : Area r d w) (whole : m ≡ 64 * B) where
  pub up_apart : (a k x : ℕ) → 0 < m → Apart r d w B x (slide_up r d w m a k x)
  unfolding slide_up
  up_apart a zero x p = apart_none r d w B x
  up_apart a (suc k) x p =
      apart_then r d w B x _ _ (apart_put r d w B ar x ((a + suc k) % m) _ (cell_lt r d w x ((a + k) % m)) (omega (arith, mod-lt (a + suc k) p)))
      (up_apart a k (put_cell r d w x ((a + suc k) % m) (cell_at r d w x ((a + k) % m))) p)

  -- a slot that nothing is moved to
  pub up_out : (a k x s : ℕ) → ((j : ℕ) → 1 ≤ j → j ≤ k → (a + j) % m ≢ s) → cell_at r d w (slide_up r d w m a k x) s ≡ cell_at r d w x s
  unfolding slide_up
  up_out a zero x s h = refl
  up_out a (suc k) x s h =
      up_out a k (put_cell r d w x ((a + suc k) % m) (cell_at r d w x ((a + k) % m))) s (λ j l i. h j l (omega arith))
      ∙ cell_other r d w ar x ((a + suc k) % m) _ (cell_lt r d w x ((a + k) % m)) s (h (suc k) (omega arith) (omega arith))

  pub up_in : (a k x j : ℕ) → k < m → j < k → cell_at r d w (slide_up r d w m a k x) ((a + suc j) % m) ≡ cell_at r d w x ((a + j) % m)
  unfolding slide_up
  up_in a zero x j b l = absurd (omega arith)
  up_in a (suc k) x j b l = go (ℕ_discrete j k) (λ h. up_in a k _ j (omega arith) h)
    where
      y : ℕ
      y = put_cell r d w x ((a + suc k) % m) (cell_at r d w x ((a + k) % m))

      go : Dec (j ≡ k) → (j < k → cell_at r d w (slide_up r d w m a k y) ((a + suc j) % m) ≡ cell_at r d w y ((a + j) % m))
          → cell_at r d w (slide_up r d w m a k y) ((a + suc j) % m) ≡ cell_at r d w x ((a + j) % m)
      go (yes e) ih =
          rw e (up_out a k y ((a + suc k) % m) (λ i p q. apart_slots m a i (suc k) (omega arith) (omega arith) (λ z. omega arith))
          ∙ cell_same r d w ar x ((a + suc k) % m) _ (cell_lt r d w x ((a + k) % m)))
      go (no e) ih =
          ih (omega arith) ∙ cell_other r d w ar x ((a + suc k) % m) _ (cell_lt r d w x ((a + k) % m)) ((a + j) % m) (apart_slots m a (suc k) j (omega arith) (omega arith) (λ z. omega arith))

  pub down_apart : (a k x : ℕ) → 0 < m → Apart r d w B x (slide_down r d w m a k x)
  unfolding slide_down
  down_apart a zero x p = apart_none r d w B x
  down_apart a (suc k) x p =
      apart_then r d w B x _ _ (apart_put r d w B ar x (a % m) _ (cell_lt r d w x (suc a % m)) (omega (arith, mod-lt a p)))
      (down_apart (suc a) k (put_cell r d w x (a % m) (cell_at r d w x (suc a % m))) p)

  pub down_out : (a k x s : ℕ) → ((j : ℕ) → j < k → (a + j) % m ≢ s) → cell_at r d w (slide_down r d w m a k x) s ≡ cell_at r d w x s
  unfolding slide_down
  down_out a zero x s h = refl
  down_out a (suc k) x s h =
      down_out (suc a) k (put_cell r d w x (a % m) (cell_at r d w x (suc a % m))) s (λ j l z. h (suc j) (omega arith) (ap (λ y. y % m) (one_on a j) ∙ z))
      ∙ cell_other r d w ar x (a % m) _ (cell_lt r d w x (suc a % m)) s (λ z. h 0 (omega arith) (ap (λ y. y % m) (add-zero a) ∙ z))

  pub down_in : (a k x j : ℕ) → k < m → j < k → cell_at r d w (slide_down r d w m a k x) ((a + j) % m) ≡ cell_at r d w x ((a + suc j) % m)
  unfolding slide_down
  down_in a zero x j b l = absurd (omega arith)
  down_in a (suc k) x zero b l =
      let z : a + 0 ≡ a = omega arith in
      let o : a + 1 ≡ suc a = omega arith in
      rw (z, o) (down_out (suc a) k y (a % m) (λ i p q. apart_slots m a (suc i) 0 (omega arith) (omega arith) (λ u. omega arith) (ap (λ u. u % m) (one_on a i) ∙ q ∙ sym (ap (λ u. u % m) z)))
      ∙ cell_same r d w ar x (a % m) _ (cell_lt r d w x (suc a % m)))
    where
      y : ℕ
      y = put_cell r d w x (a % m) (cell_at r d w x (suc a % m))
  down_in a (suc k) x (suc j) b l =
      let e : a + suc j ≡ suc a + j = omega arith in
      let f : a + suc (suc j) ≡ suc a + suc j = omega arith in
      let z : a + 0 ≡ a = omega arith in
      rw (e, f) (down_in (suc a) k y j (omega arith) (omega arith)
      ∙ cell_other r d w ar x (a % m) _ (cell_lt r d w x (suc a % m)) ((suc a + suc j) % m)
      (λ q. apart_slots m a 0 (suc (suc j)) (omega arith) (omega arith) (λ u. omega arith) (ap (λ u. u % m) z ∙ q ∙ sym (ap (λ u. u % m) f))))
    where
      y : ℕ
      y = put_cell r d w x (a % m) (cell_at r d w x (suc a % m))
