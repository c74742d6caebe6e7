-- The image's cells are laid out by the carry. Assumes nothing.
use Prim.Native.Nat.{ℕ, zero, suc, ◌+◌, ◌-◌, ◌*◌, ◌/◌, ◌%◌, ◌≤◌, ◌<◌}
use Rattle.std.specs.Prelude.{◌≡◌}
use Rattle.std.proofs.Math.Path.{refl, sym, ap}
use Rattle.std.proofs.Common.{◌∙◌, mod-lt, mod-eq_of_lt, div-add-mod', add_comm, zero-mul}
use native.Mathlib.Omega.{arith}
use Rattle.std.proofs.Math.Decide.{dec_lt, ℕ_discrete}
use Rattle.std.proofs.Math.Nat.{add-mod-mod, add-mod_right, mul-add-mod_self_right}
use Rattle.theory.specs.tools.Choose.{choose, choose_yes, choose_no, choose_by}
use Rattle.theory.specs.tools.Total.{total_one}
use Rattle.theory.specs.Image.{behind, start, carry, cell}
use Rattle.theory.specs.carry.Carry.{Free, mod_window, run_not_free, carry_per, places_distinct, Round}
use Rattle.theory.specs.images.Filled.{Filled, filled_round}

-- a function that repeats after m is told by its argument modulo m
pub per_mod : (m : ℕ) (f : ℕ → ℕ) → ((x : ℕ) → f (x + m) ≡ f x) → (k y : ℕ) → f (y + k * m) ≡ f y
per_mod m f per zero y = ap f (omega (arith, zero-mul m))
per_mod m f per (suc k) y = ap f (omega arith) ∙ per (y + k * m) ∙ per_mod m f per k y

pub per_at : (m : ℕ) (f : ℕ → ℕ) → ((x : ℕ) → f (x + m) ≡ f x) → (t : ℕ) → f t ≡ f (t % m)
per_at m f per t = ap f (sym (div-add-mod' t m) ∙ add_comm (t / m * m) (t % m)) ∙ per_mod m f per (t / m) (t % m)

pub behind_is : (m a s : ℕ) → s < m → (a + behind m a s) % m ≡ s
unfolding behind
behind_is m a s l =
    let e : a + (s + m - a % m) ≡ a / m * m + (s + m) = omega (arith, div-add-mod' a m, mod-lt a {m = m} (omega arith)) in
    add-mod-mod a (s + m - a % m) m ∙ ap (λ z. z % m) e ∙ mul-add-mod_self_right (a / m) m (s + m) ∙ add-mod_right s m ∙ mod-eq_of_lt l

pub behind_lt : (m a s : ℕ) → 0 < m → behind m a s < m
unfolding behind
behind_lt m a s p = mod-lt (s + m - a % m) p

-- a slot j behind a is told by j
pub behind_at : (m a s j : ℕ) → s < m → j < m → (a + j) % m ≡ s → behind m a s ≡ j
behind_at m a s j l h e =
    let d : behind m a s < m = behind_lt m a s (omega arith) in
    omega (arith, mod_window m a (a + behind m a s) (a + j) (omega arith) (omega arith) (omega arith) (omega arith) (behind_is m a s l ∙ sym e))

module _ (m : ℕ) (n : ℕ → ℕ) (r : Round m n) (c : ℕ → ℕ → ℕ) where
  few : (x : ℕ) → x < m → n x < m
  few x b = omega (arith, total_one n x m b, r.few)

  -- the place of a run that stands in the slot
  cell_hit : (k s x j : ℕ) → k ≤ m → s < m → x < k → j < n x → (start m n x + j) % m ≡ s → cell m n c k s ≡ c x j
  unfolding cell
  cell_hit zero s x j b l h i e = absurd (omega arith)
  cell_hit (suc k) s x j b l h i e = go (ℕ_discrete k x) (λ a. cell_hit k s x j (omega arith) l a i e)
    where
      go : Dec (k ≡ x) → (x < k → cell m n c k s ≡ c x j)
          → choose (dec_lt (behind m (start m n k) s) (n k)) (c k (behind m (start m n k) s)) (cell m n c k s) ≡ c x j
      go (yes z) ih =
          let d : behind m (start m n x) s ≡ j = behind_at m (start m n x) s j l (omega (arith, few x (omega arith))) e in
          rw (z, d) (choose_yes (dec_lt j (n x)) _ _ i)
      go (no z) ih =
          choose_no (dec_lt (behind m (start m n k) s) (n k)) _ _
          (λ d. z (places_distinct m n r k (behind m (start m n k) s) x j (omega arith) (omega arith) d i (behind_is m (start m n k) s l ∙ sym e)).0)
          ∙ ih (omega arith)

  -- a free slot
  cell_miss : (k s : ℕ) → k ≤ m → s < m → Free m n s → cell m n c k s ≡ 0
  unfolding cell
  cell_miss zero s b l f = refl
  cell_miss (suc k) s b l f = choose_no (dec_lt (behind m (start m n k) s) (n k)) _ _ (λ d. run_not_free m n k _ d (here d)) ∙ cell_miss k s (omega arith) l f
    where
      here : behind m (start m n k) s < n k → Free m n (start m n k + behind m (start m n k) s)
      here d =
          let e : (start m n k + behind m (start m n k) s) % m ≡ s = behind_is m (start m n k) s l in
          let a : carry m n (start m n k + behind m (start m n k) s) ≡ carry m n s = per_at m (carry m n) (carry_per m n r) _ ∙ ap (carry m n) e in
          let b : n (start m n k + behind m (start m n k) s) ≡ n s = per_at m n r.per _ ∙ ap n e in
          omega arith

  pub cell_filled : ((x j : ℕ) → c (x + m) j ≡ c x j) → Filled m n c (λ t. cell m n c m (t % m))
  cell_filled cper = filled_round m n c (λ t. cell m n c m (t % m)) r cper (λ t. ap (cell m n c m) (add-mod_right t m)) 0
      (λ x a b j l. cell_hit m _ x j (omega arith) (mod-lt (start m n x + j) (omega arith)) (omega arith) l refl)
      (λ t a b f. ap (cell m n c m) (mod-eq_of_lt (omega arith)) ∙ cell_miss m t (omega arith) (omega arith) f)

-- what holds of every content holds of every cell
pub cell_all : (P : ℕ → Type 0) (m : ℕ) (n : ℕ → ℕ) (c : ℕ → ℕ → ℕ) → P 0 → (k : ℕ) → ((x : ℕ) → x < k → (j : ℕ) → j < n x → P (c x j)) → (s : ℕ) → P (cell m n c k s)
unfolding cell
cell_all P m n c z zero h s = z
cell_all P m n c z (suc k) h s =
    choose_by P (dec_lt (behind m (start m n k) s) (n k)) (λ l. h k (omega arith) _ l) (λ _. cell_all P m n c z k (λ x b. h x (omega arith)) s)
