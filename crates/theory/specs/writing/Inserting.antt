-- The writes of an insert, one after the other, are what OneMore asks: one remainder put in, one runend bit, the occupied bit, and the offsets counted up.
-- Assumes nothing.
use Prim.Native.Nat.{ℕ, suc, ◌+◌, ◌-◌, ◌*◌, ◌/◌, ◌%◌, ◌^◌, ◌≤◌, ◌<◌, min}
use Rattle.std.specs.Prelude.{◌≡◌, refl, ◌⊎◌, ◌≢◌, List, length}
use Rattle.std.proofs.Common.{sym, ◌∙◌, inl, inr, mod-eq_of_lt, pow_pos}
use Rattle.std.proofs.Math.Path.{ap}
use native.Mathlib.Omega.{arith}
use Rattle.std.proofs.Math.Decide.{dec_le}
use Rattle.std.proofs.Math.Nat.{add-mod_right}
use Rattle.theory.specs.number.Field.{field_lt}
use Rattle.theory.specs.Holding.{run, Holding, more}
use Rattle.theory.specs.list.More.{place}
use Rattle.theory.specs.Image.{many, start}
use Rattle.theory.specs.carry.Carry.{mod_window}
use Rattle.theory.specs.carry.CarryMore.{upto, upto_in, upto_out}
use Rattle.theory.specs.images.Block.{cell_same, put_cell, occupieds, views, Area, remainders, cell_offset, runends, cell_tail, cell_at, cell_behind, block, offset_at, tail_at, cell_other}
use Rattle.theory.specs.writing.RaisedOffsets.{bump_apart, bump_out, bump, bump_in}
use Rattle.theory.specs.writing.OneMore.{Shifted, Inserted, more_image, room}
use Rattle.theory.specs.writing.PutIn.{PutIn}
use Rattle.theory.specs.images.ByViews.{Image}

pub record Wrote (r m B q a b e v bit x x' : ℕ) : Type 0 where
  pub x₁ : ℕ
  pub x₂ : ℕ
  pub put_remainder : PutIn r 17 r m B a e v x x₁
  pub put_runend : PutIn r 9 1 m B b e bit x₁ x₂
  pub after : x' ≡ bump r B (q / 64) (e / 64 - q / 64) (put_cell r 1 1 x₂ q 1)

module _ (r m B q a b e v bit x x' : ℕ) (whole : m ≡ 64 * B) (inside : q < m) (w : Wrote r m B q a b e v bit x x') where
  x₃ : ℕ
  x₃ = put_cell r 1 1 w.x₂ q 1

  pos : 0 < B
  pos = omega arith

  one : 1 < 2 ^ 1
  one = omega arith

  -- the bumps leave every cell
  cells : (d u : ℕ) → Area r d u → (t : ℕ) → cell_at r d u x' t ≡ cell_at r d u x₃ t
  unfolding x₃
  cells d u ar t = ap (λ z. cell_at r d u z t) w.after ∙ (bump_apart r B pos (q / 64) (e / 64 - q / 64) (put_cell r 1 1 w.x₂ q 1)).cells d u ar t

  remainder_is : (t : ℕ) → cell_at r 17 r x' t ≡ cell_at r 17 r w.x₁ t
  unfolding x₃
  remainder_is t =
      cells 17 r (remainders r) t ∙ cell_behind r 1 1 (occupieds r) w.x₂ q 1 one 17 r (remainders r) (omega arith) t
      ∙ w.put_runend.apart.behind 17 r (remainders r) (omega arith) t

  runend_is : (t : ℕ) → cell_at r 9 1 x' t ≡ cell_at r 9 1 w.x₂ t
  unfolding x₃
  runend_is t = cells 9 1 (runends r) t ∙ cell_behind r 1 1 (occupieds r) w.x₂ q 1 one 9 1 (runends r) (omega arith) t

  runend_was : (t : ℕ) → cell_at r 9 1 w.x₁ t ≡ cell_at r 9 1 x t
  runend_was t = w.put_remainder.apart.before 9 1 (runends r) (omega arith) t

  occupied_new : cell_at r 1 1 x' q ≡ 1
  unfolding x₃
  occupied_new = cells 1 1 (occupieds r) q ∙ cell_same r 1 1 (occupieds r) w.x₂ q 1 one

  occupied_was : (t : ℕ) → t ≢ q → cell_at r 1 1 x' t ≡ cell_at r 1 1 x t
  unfolding x₃
  occupied_was t ne =
      cells 1 1 (occupieds r) t ∙ cell_other r 1 1 (occupieds r) w.x₂ q 1 one t (λ z. ne (sym z))
      ∙ w.put_runend.apart.before 1 1 (occupieds r) (omega arith) t ∙ w.put_remainder.apart.before 1 1 (occupieds r) (omega arith) t

  offset_was : (c : ℕ) → offset_at r x₃ c ≡ offset_at r x c
  unfolding x₃
  offset_was c = cell_offset r 1 1 (occupieds r) w.x₂ q 1 one c ∙ w.put_runend.apart.offset c ∙ w.put_remainder.apart.offset c

  offset_small : (c : ℕ) → offset_at r x c ≤ 255
  unfolding offset_at
  offset_small c = omega (arith, field_lt x (8 * block r c) 8)

  pub tail_was : tail_at r B x' ≡ tail_at r B x
  unfolding x₃
  tail_was =
      ap (tail_at r B) w.after ∙ (bump_apart r B pos (q / 64) (e / 64 - q / 64) (put_cell r 1 1 w.x₂ q 1)).tail
      ∙ cell_tail r 1 1 (occupieds r) w.x₂ q 1 one B (omega arith) ∙ w.put_runend.apart.tail ∙ w.put_remainder.apart.tail

  -- block c, met at y blocks from the first on: counted up if it lies up to e, else as it was
  module _ (few : e < q + m) where
    hit : (c y : ℕ) → c < B → y % B ≡ c → q / 64 < y → y ≤ e / 64 → offset_at r x' c ≡ min (offset_at r x c + 1) 255
    unfolding x₃
    hit c y l ey low high =
        let f : q / 64 + (y - q / 64) ≡ y = omega arith in
        ap (λ z. offset_at r z c) w.after
        ∙ (rw (f, ey) at (bump_in r B pos (q / 64) (e / 64 - q / 64) (put_cell r 1 1 w.x₂ q 1) (y - q / 64) (omega arith) (omega arith) (omega arith)))
        ∙ ap (λ z. min (z + 1) 255) (offset_was c)

    miss : (c : ℕ) → ((y : ℕ) → q / 64 < y → y ≤ e / 64 → y % B ≢ c) → offset_at r x' c ≡ offset_at r x c
    unfolding x₃
    miss c h =
        ap (λ z. offset_at r z c) w.after
        ∙ bump_out r B pos (q / 64) (e / 64 - q / 64) (put_cell r 1 1 w.x₂ q 1) c (λ j l i. h (q / 64 + j) (omega arith) (omega arith)) ∙ offset_was c

    -- y is c or c + B, and lies behind block q / 64, at most a round on
    at_block : (c y : ℕ) → c < B → (y ≡ c) ⊎ (y ≡ c + B) → q / 64 < y → y ≤ q / 64 + B → offset_at r x' c ≡ min (offset_at r x c + upto e (64 * y)) 255
    at_block c y l ey low high = go (dec_le y (e / 64))
      where
        round : (y ≡ c) ⊎ (y ≡ c + B) → y % B ≡ c
        round (inl z) = rw z (mod-eq_of_lt l)
        round (inr z) = rw z (add-mod_right c B ∙ mod-eq_of_lt l)

        go : Dec (y ≤ e / 64) → offset_at r x' c ≡ min (offset_at r x c + upto e (64 * y)) 255
        go (yes h) = hit c y l (round ey) low h ∙ ap (λ z. min (offset_at r x c + z) 255) (sym (upto_in e (64 * y) (omega arith)))
        go (no h) =
            miss c (λ z a i f. absurd (omega (arith, mod_window B (suc (q / 64)) z y (omega arith) (omega arith) (omega arith) (omega arith) (f ∙ sym (round ey)))))
            ∙ omega (arith, offset_small c, upto_out e (64 * y) (omega arith))

-- a shift told of other functions that agree
shifted_as : (m a e : ℕ) (f g f' g' : ℕ → ℕ) → ((t : ℕ) → f t ≡ f' t) → ((t : ℕ) → g t ≡ g' t) → Shifted m a e f' g' → Shifted m a e f g
shifted_as m a e f g f' g' ef eg s = record {
  moved = λ t l b. eg (suc t % m) ∙ s.moved t l b ∙ sym (ef (t % m));
  kept = λ t l b. eg (t % m) ∙ s.kept t l b ∙ sym (ef (t % m));
}

module _ (r m B : ℕ) (whole : m ≡ 64 * B) (l : List ℕ) (f : ℕ) (h : Holding m (2 ^ r) l) (u : f < m * 2 ^ r) (k : suc (length l) < m) where
  abbrev n : ℕ → ℕ
  n = many m (2 ^ r) l

  abbrev q : ℕ
  q = f / 2 ^ r

  pub written_image : (a b e bit j x x' : ℕ) → q < m → a ≡ start m n q + place (f % 2 ^ r) (run (2 ^ r) l q) → b ≡ start m n q + j
      → e ≡ (room m (2 ^ r) (pow_pos r) l f h u k).at → ((j < n q) × (bit ≡ 0)) ⊎ ((n q ≡ 0) × (j ≡ 0) × (bit ≡ 1))
      → Wrote r m B q a b e (f % 2 ^ r) bit x x' → Image m (2 ^ r) l (views r x) → Image m (2 ^ r) (more f l) (views r x')
  written_image a b e bit j x x' inside ea eb ee is w i = more_image m (2 ^ r) (pow_pos r) l f h u k (views r x) (views r x') done i
    where
      few : e < q + m
      few = omega (arith, (room m (2 ^ r) (pow_pos r) l f h u k).to)

      offsets : (c y : ℕ) → 64 * c < m → q < y → y ≤ q + m → (y ≡ 64 * c) ⊎ (y ≡ 64 * c + m) → offset_at r x' c ≡ min (offset_at r x c + upto e y) 255
      offsets c y d low high (inl z) =
          rw z (at_block r m B q a b e (f % 2 ^ r) bit x x' whole inside w few c c (omega arith) (inl refl) (omega arith) (omega arith))
      offsets c y d low high (inr z) =
          let g : 64 * (c + B) ≡ y = omega arith in
          rw g at (at_block r m B q a b e (f % 2 ^ r) bit x x' whole inside w few c (c + B) (omega arith) (inr refl) (omega arith) (omega arith))

      done : Inserted m (2 ^ r) (pow_pos r) l f h u k (views r x) (views r x')
      done = record {
        occupied = occupied_new r m B q a b e (f % 2 ^ r) bit x x' whole inside w;
        occupied_other = λ t d ne. occupied_was r m B q a b e (f % 2 ^ r) bit x x' whole inside w t ne;
        remainder = rw (← ea) (remainder_is r m B q a b e (f % 2 ^ r) bit x x' whole inside w (a % m) ∙ w.put_remainder.new);
        remainders = rw (← ea, ← ee) (shifted_as m a e _ _ _ _ (λ t. refl) (remainder_is r m B q a b e (f % 2 ^ r) bit x x' whole inside w) w.put_remainder.shifted);
        bit_place = j;
        bit = bit;
        bit_is = is;
        runend = rw (← eb) (runend_is r m B q a b e (f % 2 ^ r) bit x x' whole inside w (b % m) ∙ w.put_runend.new);
        runends = rw (← eb, ← ee) (shifted_as m b e _ _ _ _ (λ t. sym (runend_was r m B q a b e (f % 2 ^ r) bit x x' whole inside w t)) (runend_is r m B q a b e (f % 2 ^ r) bit x x' whole inside w) w.put_runend.shifted);
        offsets = λ c y d low high z. rw (← ee) (offsets c y d low high z);
      }
