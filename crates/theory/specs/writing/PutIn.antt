-- One cell more put in at slot a, the cells from there to slot e moved on by one; one cell taken out at a, those behind it moved back and e cleared.
-- Assumes nothing.
use Rattle.std.specs.Prelude.{ℕ, zero, suc, ◌+◌, ◌-◌, ◌*◌, ◌%◌, ◌^◌, ◌≤◌, ◌<◌, ◌≡◌, refl, ◌≢◌}
use Rattle.std.proofs.Common.{sym, ap, ◌∙◌, arith, mod-lt, pow_pos}
use Rattle.theory.specs.images.Block.{cell_other, Area, put_cell, cell_at, cell_same}
use Rattle.theory.specs.writing.OneFewer.{Back}
use Rattle.theory.specs.writing.OneMore.{Shifted}
use Rattle.theory.specs.writing.Slide.{down_apart, apart_slots, up_in, slide_up, up_out, apart_put, up_apart, apart_then, slide_down, down_out, Apart, down_in}

pub record PutIn (r d w m B a e v x x' : ℕ) : Type 0 where
  pub shifted : Shifted m a e (cell_at r d w x) (cell_at r d w x')
  pub new : cell_at r d w x' (a % m) ≡ v
  pub apart : Apart r d w B x x'

pub record TakenOut (r d w m B a e x x' : ℕ) : Type 0 where
  pub back : Back m a e (cell_at r d w x) (cell_at r d w x')
  pub apart : Apart r d w B x x'

-- as a loop from the top meets it
pub up_step : (r d w m a k x : ℕ) → 0 < k → slide_up r d w m a k x ≡ slide_up r d w m a (k - 1) (put_cell r d w x ((a + k) % m) (cell_at r d w x ((a + k - 1) % m)))
unfolding slide_up
up_step r d w m a zero x h = absurd (omega (arith, h))
up_step r d w m a (suc k) x h =
    let e : suc k - 1 ≡ k = omega arith in
    let f : a + suc k - 1 ≡ a + k = omega arith in
    rw (e, f) refl

pub up_none : (r d w m a k x : ℕ) → k ≡ 0 → slide_up r d w m a k x ≡ x
unfolding slide_up
up_none r d w m a k x e = rw e refl

pub down_step : (r d w m a k x : ℕ) → 0 < k → slide_down r d w m a k x ≡ slide_down r d w m (a + 1) (k - 1) (put_cell r d w x (a % m) (cell_at r d w x ((a + 1) % m)))
unfolding slide_down
down_step r d w m a zero x h = absurd (omega (arith, h))
down_step r d w m a (suc k) x h =
    let e : suc k - 1 ≡ k = omega arith in
    let f : a + 1 ≡ suc a = omega arith in
    rw (e, f) refl

pub down_none : (r d w m a k x : ℕ) → k ≡ 0 → slide_down r d w m a k x ≡ x
unfolding slide_down
down_none r d w m a k x e = rw e refl

module _ (r d w m B : ℕ) (ar : Area r d w) (whole : m ≡ 64 * B) (a e : ℕ) (le-e : a ≤ e) (few : e < a + m) where
  pos : 0 < m
  pos = omega arith

  zero_on : a + 0 ≡ a
  zero_on = omega arith

  pub put_in : (x v : ℕ) → v < 2 ^ w → PutIn r d w m B a e v x (put_cell r d w (slide_up r d w m a (e - a) x) (a % m) v)
  put_in x v h = record {
    shifted = record { moved = moved; kept = kept };
    new = cell_same r d w ar y (a % m) v h;
    apart = apart_then r d w B x y _ (up_apart r d w m B ar whole a (e - a) x pos) (apart_put r d w B ar y (a % m) v h (omega (arith, mod-lt a pos)));
  }
    where
      y : ℕ
      y = slide_up r d w m a (e - a) x

      -- a slot behind a is not a
      other : (i : ℕ) → 1 ≤ i → i < m → a % m ≢ (a + i) % m
      other i l b q = apart_slots m a 0 i (omega arith) b (λ z. omega arith) (ap (λ u. u % m) zero_on ∙ q)

      moved : (t : ℕ) → a ≤ t → t < e → cell_at r d w (put_cell r d w y (a % m) v) (suc t % m) ≡ cell_at r d w x (t % m)
      moved t l b =
          let p : a + suc (t - a) ≡ suc t = omega arith in
          let q : a + (t - a) ≡ t = omega arith in
          rw (p, q) at (cell_other r d w ar y (a % m) v h ((a + suc (t - a)) % m) (other (suc (t - a)) (omega arith) (omega arith))
          ∙ up_in r d w m B ar whole a (e - a) x (t - a) (omega arith) (omega arith))

      kept : (t : ℕ) → e < t → t < a + m → cell_at r d w (put_cell r d w y (a % m) v) (t % m) ≡ cell_at r d w x (t % m)
      kept t l b =
          let q : a + (t - a) ≡ t = omega arith in
          rw q at (cell_other r d w ar y (a % m) v h ((a + (t - a)) % m) (other (t - a) (omega arith) (omega arith))
          ∙ up_out r d w m B ar whole a (e - a) x ((a + (t - a)) % m) (λ j c f. apart_slots m a j (t - a) (omega arith) (omega arith) (λ z. omega arith)))

  pub take_out : (x : ℕ) → TakenOut r d w m B a e x (put_cell r d w (slide_down r d w m a (e - a) x) (e % m) 0)
  take_out x = record {
    back = record { moved = moved; cleared = cell_same r d w ar y (e % m) 0 (pow_pos w); kept = kept };
    apart = apart_then r d w B x y _ (down_apart r d w m B ar whole a (e - a) x pos) (apart_put r d w B ar y (e % m) 0 (pow_pos w) (omega (arith, mod-lt e pos)));
  }
    where
      y : ℕ
      y = slide_down r d w m a (e - a) x

      last : a + (e - a) ≡ e
      last = omega arith

      -- a slot other than e, less than a round from a
      other : (i : ℕ) → i < m → i ≢ e - a → e % m ≢ (a + i) % m
      other i b ne q = apart_slots m a (e - a) i (omega arith) b (λ z. ne (sym z)) (ap (λ u. u % m) last ∙ q)

      moved : (t : ℕ) → a ≤ t → t < e → cell_at r d w (put_cell r d w y (e % m) 0) (t % m) ≡ cell_at r d w x (suc t % m)
      moved t l b =
          let p : a + suc (t - a) ≡ suc t = omega arith in
          let q : a + (t - a) ≡ t = omega arith in
          rw (p, q) at (cell_other r d w ar y (e % m) 0 (pow_pos w) ((a + (t - a)) % m) (other (t - a) (omega arith) (λ z. omega arith))
          ∙ down_in r d w m B ar whole a (e - a) x (t - a) (omega arith) (omega arith))

      kept : (t : ℕ) → e < t → t < a + m → cell_at r d w (put_cell r d w y (e % m) 0) (t % m) ≡ cell_at r d w x (t % m)
      kept t l b =
          let q : a + (t - a) ≡ t = omega arith in
          rw q at (cell_other r d w ar y (e % m) 0 (pow_pos w) ((a + (t - a)) % m) (other (t - a) (omega arith) (λ z. omega arith))
          ∙ down_out r d w m B ar whole a (e - a) x ((a + (t - a)) % m) (λ j c. apart_slots m a j (t - a) (omega arith) (omega arith) (λ z. omega arith)))
