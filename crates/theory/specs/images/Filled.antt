-- Cells laid out by the carry: the cell of each place of a run, and 0 in each free slot. Used twice, for remainders and for runend bits.
-- Assumes nothing.
use Rattle.std.specs.Prelude.{ℕ, suc, ◌+◌, ◌-◌, ◌≤◌, ◌<◌, ◌≡◌}
use Rattle.std.proofs.Common.{sym, ap, ◌∙◌, arith}
use Rattle.std.proofs.Math.Decide.{dec_le, dec_lt, ℕ_discrete}
use Rattle.theory.specs.Image.{carry, start}
use Rattle.theory.specs.carry.Carry.{Round, Free, FirstFree, carry_suc, start_carry, end_le, before_free, start_per, carry_per, per_all}
use Rattle.theory.specs.carry.CarryMore.{upto_in, upto_out, carry_grown}

-- `cell` has `c x j` in the j-th slot of the run of x, and 0 in each free slot
pub record Filled (m : ℕ) (n : ℕ → ℕ) (c : ℕ → ℕ → ℕ) (cell : ℕ → ℕ) : Type 0 where
  pub used : (x j : ℕ) → j < n x → cell (start m n x + j) ≡ c x j
  pub free : (t : ℕ) → Free m n t → cell t ≡ 0

-- it is enough to look at one round
pub filled_round : (m : ℕ) (n : ℕ → ℕ) (c : ℕ → ℕ → ℕ) (cell : ℕ → ℕ) → Round m n → ((x j : ℕ) → c (x + m) j ≡ c x j) → ((t : ℕ) → cell (t + m) ≡ cell t)
    → (y : ℕ) → ((x : ℕ) → y ≤ x → x < y + m → (j : ℕ) → j < n x → cell (start m n x + j) ≡ c x j)
    → ((t : ℕ) → y ≤ t → t < y + m → Free m n t → cell t ≡ 0) → Filled m n c cell
filled_round m n c cell r cper per y hu hf = record { used = per_all m _ up down (omega (arith, r.few)) y hu; free = per_all m _ fup fdown (omega (arith, r.few)) y hf }
  where
    same : (x j : ℕ) → cell (start m n (x + m) + j) ≡ cell (start m n x + j)
    same x j =
        let e : start m n (x + m) + j ≡ start m n x + j + m = omega (arith, start_per m n r x) in
        ap cell e ∙ per (start m n x + j)

    up : (x : ℕ) → ((j : ℕ) → j < n x → cell (start m n x + j) ≡ c x j) → (j : ℕ) → j < n (x + m) → cell (start m n (x + m) + j) ≡ c (x + m) j
    up x h j l = same x j ∙ h j (omega (arith, r.per x)) ∙ sym (cper x j)

    down : (x : ℕ) → ((j : ℕ) → j < n (x + m) → cell (start m n (x + m) + j) ≡ c (x + m) j) → (j : ℕ) → j < n x → cell (start m n x + j) ≡ c x j
    down x h j l = sym (same x j) ∙ h j (omega (arith, r.per x)) ∙ cper x j

    fup : (t : ℕ) → (Free m n t → cell t ≡ 0) → Free m n (t + m) → cell (t + m) ≡ 0
    fup t h f = per t ∙ h (omega (arith, r.per t, carry_per m n r t))

    fdown : (t : ℕ) → (Free m n (t + m) → cell (t + m) ≡ 0) → Free m n t → cell t ≡ 0
    fdown t h f = sym (per t) ∙ h (omega (arith, r.per t, carry_per m n r t))

-- One copy more at place i of the run of q: what stood from there to the first free slot moves on by one.
module _ (m : ℕ) (n n' : ℕ → ℕ) (q : ℕ) (more : n' q ≡ suc (n q)) (same : (x : ℕ) → q < x → x < q + m → n' x ≡ n x)
    (r : Round m n) (r' : Round m n') (f : FirstFree m n q) where
  start_q : start m n' q ≡ start m n q
  start_q = omega (arith, carry_grown m n n' q more same r r' f (q + m) (omega (arith, r.few)) (omega arith), upto_out f.at (q + m) f.to, carry_per m n r q, carry_per m n' r' q, start_carry m n q, start_carry m n' q)

  start_in : (x : ℕ) → q < x → x ≤ f.at → start m n' x ≡ suc (start m n x)
  start_in x a b = omega (arith, f.to, carry_grown m n n' q more same r r' f x a (omega (arith, f.to)), upto_in f.at x b, start_carry m n x, start_carry m n' x)

  start_out : (x : ℕ) → f.at < x → x < q + m → start m n' x ≡ start m n x
  start_out x a b = omega (arith, f.from, carry_grown m n n' q more same r r' f x (omega (arith, f.from)) (omega arith), upto_out f.at x a, start_carry m n x, start_carry m n' x)

  -- a run that is not empty and stands before the first free slot ends there or before
  ends : (x : ℕ) → q ≤ x → x ≤ f.at → 0 < n x → start m n x + n x ≤ f.at
  ends x a b h = go (ℕ_discrete x f.at)
    where
      go : Dec (x ≡ f.at) → start m n x + n x ≤ f.at
      go (yes e) =
          let z : Free m n x = rw e f.free in
          absurd (omega arith)
      go (no ne) = before_free m n x f.at (omega arith) f.free

  module _ (c c' : ℕ → ℕ → ℕ) (i new : ℕ) (place : i ≤ n q) (cper : (x j : ℕ) → c' (x + m) j ≡ c' x j)
      (c-before : (j : ℕ) → j < i → c' q j ≡ c q j) (c-new : c' q i ≡ new) (c-after : (j : ℕ) → i ≤ j → j < n q → c' q (suc j) ≡ c q j)
      (c-other : (x : ℕ) → q < x → x < q + m → (j : ℕ) → j < n x → c' x j ≡ c x j)
      (cell cell' : ℕ → ℕ) (per : (t : ℕ) → cell (t + m) ≡ cell t) (per' : (t : ℕ) → cell' (t + m) ≡ cell' t)
      (at_new : cell' (start m n q + i) ≡ new)
      (moved : (t : ℕ) → start m n q + i ≤ t → t < f.at → cell' (suc t) ≡ cell t)
      (kept : (t : ℕ) → f.at < t → t < start m n q + i + m → cell' t ≡ cell t) where
    pub filled_grown : Filled m n c cell → Filled m n' c' cell'
    filled_grown old = filled_round m n' c' cell' r' cper per' q used free
      where
        at_q : (j : ℕ) → j < n' q → cell' (start m n q + j) ≡ c' q j
        at_q j l = go (dec_lt j i) (ℕ_discrete j i)
          where
            go : Dec (j < i) → Dec (j ≡ i) → cell' (start m n q + j) ≡ c' q j
            go (yes h) d =
                sym (per' (start m n q + j)) ∙ kept (start m n q + j + m) (omega (arith, f.to, start_carry m n q)) (omega arith) ∙ per (start m n q + j)
                ∙ old.used q j (omega arith) ∙ sym (c-before j h)
            go (no h) (yes e) = rw e (at_new ∙ sym c-new)
            go (no h) (no ne) =
                let e : suc (j - 1) ≡ j = omega arith in
                let t : start m n q + j ≡ suc (start m n q + (j - 1)) = omega arith in
                let b : start m n q + n q ≤ f.at = ends q (omega arith) f.from (omega arith) in
                ap cell' t ∙ moved (start m n q + (j - 1)) (omega arith) (omega arith) ∙ old.used q (j - 1) (omega arith)
                ∙ sym (c-after (j - 1) (omega arith) (omega arith)) ∙ ap (c' q) e

        used : (x : ℕ) → q ≤ x → x < q + m → (j : ℕ) → j < n' x → cell' (start m n' x + j) ≡ c' x j
        used x a b j l = go (ℕ_discrete x q) (dec_le x f.at)
          where
            go : Dec (x ≡ q) → Dec (x ≤ f.at) → cell' (start m n' x + j) ≡ c' x j
            go (yes e) d =
                let l' : j < n' q = rw e at l in
                rw (e, start_q) (at_q j l')
            go (no ne) (yes h) =
                let s : n' x ≡ n x = same x (omega arith) b in
                let t : start m n' x + j ≡ suc (start m n x + j) = omega (arith, start_in x (omega arith) h) in
                let u : start m n x + n x ≤ f.at = ends x a h (omega arith) in
                ap cell' t ∙ moved (start m n x + j) (omega (arith, end_le m n q x (omega arith))) (omega arith)
                ∙ old.used x j (omega arith) ∙ sym (c-other x (omega arith) b j (omega arith))
            go (no ne) (no h) =
                let s : n' x ≡ n x = same x (omega arith) b in
                let t : start m n' x + j ≡ start m n x + j = omega (arith, start_out x (omega arith) b) in
                ap cell' t ∙ kept (start m n x + j) (omega (arith, start_carry m n x)) (omega (arith, end_le m n x (q + m) b, start_per m n r q))
                ∙ old.used x j (omega arith) ∙ sym (c-other x (omega arith) b j (omega arith))

        free : (t : ℕ) → q ≤ t → t < q + m → Free m n' t → cell' t ≡ 0
        free t a b z = go (ℕ_discrete t q) (dec_le t f.at)
          where
            go : Dec (t ≡ q) → Dec (t ≤ f.at) → cell' t ≡ 0
            go (yes e) d =
                let z' : Free m n' q = rw e at z in
                absurd (omega arith)
            go (no ne) (yes h) = absurd (omega (arith, start_in t (omega arith) h, start_carry m n t, start_carry m n' t))
            go (no ne) (no h) =
                kept t (omega arith) (omega (arith, start_carry m n q))
                ∙ old.free t (omega (arith, start_out t (omega arith) b, start_carry m n t, start_carry m n' t, same t (omega (arith, f.from)) b))

  -- One copy fewer: what stood behind the place, to the last slot that is shifted, moves back by one, and that slot is cleared.
  module _ (c c' : ℕ → ℕ → ℕ) (i : ℕ) (place : i ≤ n q) (cper : (x j : ℕ) → c (x + m) j ≡ c x j)
      (c-before : (j : ℕ) → j < i → c q j ≡ c' q j) (c-after : (j : ℕ) → i ≤ j → j < n q → c q j ≡ c' q (suc j))
      (c-other : (x : ℕ) → q < x → x < q + m → (j : ℕ) → j < n x → c x j ≡ c' x j)
      (cell cell' : ℕ → ℕ) (per : (t : ℕ) → cell (t + m) ≡ cell t) (per' : (t : ℕ) → cell' (t + m) ≡ cell' t)
      (moved : (t : ℕ) → start m n q + i ≤ t → t < f.at → cell t ≡ cell' (suc t))
      (cleared : cell f.at ≡ 0)
      (kept : (t : ℕ) → f.at < t → t < start m n q + i + m → cell t ≡ cell' t) where
    pub filled_shrunk : Filled m n' c' cell' → Filled m n c cell
    filled_shrunk old = filled_round m n c cell r cper per q used free
      where
        at_q : (j : ℕ) → j < n q → cell (start m n q + j) ≡ c q j
        at_q j l = go (dec_lt j i)
          where
            go : Dec (j < i) → cell (start m n q + j) ≡ c q j
            go (yes h) =
                sym (per (start m n q + j)) ∙ kept (start m n q + j + m) (omega (arith, f.to, start_carry m n q)) (omega arith) ∙ per' (start m n q + j)
                ∙ ap (λ z. cell' (z + j)) (sym start_q) ∙ old.used q j (omega arith) ∙ sym (c-before j h)
            go (no h) =
                let b : start m n q + n q ≤ f.at = ends q (omega arith) f.from (omega arith) in
                let t : suc (start m n q + j) ≡ start m n' q + suc j = omega (arith, start_q) in
                moved (start m n q + j) (omega arith) (omega arith) ∙ ap cell' t ∙ old.used q (suc j) (omega arith)
                ∙ sym (c-after j (omega arith) l)

        used : (x : ℕ) → q ≤ x → x < q + m → (j : ℕ) → j < n x → cell (start m n x + j) ≡ c x j
        used x a b j l = go (ℕ_discrete x q) (dec_le x f.at)
          where
            go : Dec (x ≡ q) → Dec (x ≤ f.at) → cell (start m n x + j) ≡ c x j
            go (yes e) d =
                let l' : j < n q = rw e at l in
                rw e (at_q j l')
            go (no ne) (yes h) =
                let s : n' x ≡ n x = same x (omega arith) b in
                let t : suc (start m n x + j) ≡ start m n' x + j = omega (arith, start_in x (omega arith) h) in
                let u : start m n x + n x ≤ f.at = ends x a h (omega arith) in
                moved (start m n x + j) (omega (arith, end_le m n q x (omega arith))) (omega arith) ∙ ap cell' t
                ∙ old.used x j (omega arith) ∙ sym (c-other x (omega arith) b j l)
            go (no ne) (no h) =
                let s : n' x ≡ n x = same x (omega arith) b in
                let t : start m n x + j ≡ start m n' x + j = omega (arith, start_out x (omega arith) b) in
                kept (start m n x + j) (omega (arith, start_carry m n x)) (omega (arith, end_le m n x (q + m) b, start_per m n r q)) ∙ ap cell' t
                ∙ old.used x j (omega arith) ∙ sym (c-other x (omega arith) b j l)

        free : (t : ℕ) → q ≤ t → t < q + m → Free m n t → cell t ≡ 0
        free t a b z = go (ℕ_discrete t f.at) (dec_lt t f.at)
          where
            go : Dec (t ≡ f.at) → Dec (t < f.at) → cell t ≡ 0
            go (yes e) d = rw e cleared
            go (no ne) (yes h) = absurd (omega (arith, f.before t a h))
            go (no ne) (no h) =
                kept t (omega arith) (omega (arith, start_carry m n q))
                ∙ old.free t (omega (arith, start_out t (omega arith) b, start_carry m n t, start_carry m n' t, same t (omega (arith, f.from)) b))

  -- the same slot, told from the larger filter: the first from q on behind which nothing is carried
  pub at_last : (carry m n' (suc f.at) ≡ 0) × ((x : ℕ) → q ≤ x → x < f.at → 0 < carry m n' (suc x))
  at_last = (
    omega (arith, carry_grown m n n' q more same r r' f (suc f.at) (omega (arith, f.from)) f.to, upto_out f.at (suc f.at) (omega arith), carry_suc m n f.at, f.free),
    λ x a h. omega (arith, carry_grown m n n' q more same r r' f (suc x) (omega arith) (omega (arith, f.to)), upto_in f.at (suc x) h),
  )
