-- Remove, at the level of the image: which changes to the views turn the image of a holding with one copy more (`more f l`) into that of l.
-- Assumes nothing.
use Prim.Native.Nat.{ℕ, suc, ◌+◌, ◌-◌, ◌*◌, ◌/◌, ◌%◌, ◌≤◌, ◌<◌, min}
use Rattle.std.specs.Prelude.{◌≡◌, refl, ◌⊎◌, ◌≢◌, List}
use Rattle.std.proofs.Math.Path.{sym, ap}
use Rattle.std.proofs.Common.{◌∙◌, inl, inr}
use native.Mathlib.Omega.{arith}
use Rattle.std.proofs.Math.Decide.{dec_lt, ℕ_discrete}
use Rattle.std.proofs.Math.Nat.{add-mod_right}
use Rattle.std.proofs.Math.ListN.{length}
use Rattle.theory.specs.Holding.{run, more, Holding}
use Rattle.theory.specs.list.More.{place, more_before, more_after, run_more_other}
use Rattle.theory.specs.Image.{carry, start, occ, last, Views, many, rest_at}
use Rattle.theory.specs.carry.Carry.{Round, FirstFree, carry_per}
use Rattle.theory.specs.carry.CarryMore.{upto}
use Rattle.theory.specs.images.Filled.{Filled, filled_shrunk, at_last}
use Rattle.theory.specs.reading.RunendRank.{last_inner}
use Rattle.theory.specs.images.ByViews.{Image, many_at, rest_at_lem}
use Rattle.theory.specs.writing.OneMore as P

-- what stood in the slots behind a, as far as e, stands one back, e is cleared, and behind e, as far as a comes round again, nothing has changed
pub record Back (m a e : ℕ) (old new : ℕ → ℕ) : Type 0 where
  pub moved : (t : ℕ) → a ≤ t → t < e → new (t % m) ≡ old (suc t % m)
  pub cleared : new (e % m) ≡ 0
  pub kept : (t : ℕ) → e < t → t < a + m → new (t % m) ≡ old (t % m)

module _ (m R : ℕ) (pos : 0 < R) (l : List ℕ) (f : ℕ) (h : Holding m R l) (u : f < m * R) (k : suc (length l) < m) where
  abbrev n : ℕ → ℕ
  n = many m R l

  abbrev n' : ℕ → ℕ
  n' = many m R (more f l)

  abbrev q : ℕ
  q = f / R

  abbrev i : ℕ
  i = place (f % R) (run R l q)

  abbrev e : FirstFree m n q
  e = P.room m R pos l f h u k

  one_more : n' q ≡ suc (n q)
  one_more = P.one_more m R pos l f h u k

  same : (x : ℕ) → q < x → x < q + m → n' x ≡ n x
  same = P.same m R pos l f h u k

  r : Round m n
  r = P.r m R pos l f h u k

  r' : Round m n'
  r' = P.r' m R pos l f h u k

  -- the slot to clear, told from the larger filter: the first from the quotient on behind which nothing is carried
  pub last_shifted : (carry m (many m R (more f l)) (suc (P.room m R pos l f h u k).at) ≡ 0) × ((x : ℕ) → f / R ≤ x → x < (P.room m R pos l f h u k).at → 0 < carry m (many m R (more f l)) (suc x))
  last_shifted = at_last m n n' q one_more same r r' e

  pub fewer_remainders : (w v : ℕ → ℕ) → Back m (start m n q + i) e.at w v → Filled m n' (rest_at m R (more f l)) (λ t. w (t % m)) → Filled m n (rest_at m R l) (λ t. v (t % m))
  fewer_remainders w v s old =
      filled_shrunk m n n' q one_more same r r' e (rest_at m R l) (rest_at m R (more f l)) i (P.i≤ m R pos l f h u k) (P.rest_per m R pos l f h u k l)
      (λ j c. rest_at_lem m R l q j q< ∙ sym (P.rest_grown m R pos l f h u k j ∙ more_before (f % R) (run R l q) j c))
      (λ j c d. rest_at_lem m R l q j q< ∙ sym (P.rest_grown m R pos l f h u k (suc j) ∙ more_after (f % R) (run R l q) j c))
      (λ x a b j c. sym (P.rest_other m R pos l f h u k x a b j c))
      (λ t. v (t % m)) (λ t. w (t % m)) (λ t. ap v (add-mod_right t m)) (λ t. ap w (add-mod_right t m)) s.moved s.cleared s.kept old
    where
      q< : q < m
      q< = P.q< m R pos l f h u k

  -- a runend bit is taken out in front of the run's last, or the only one
  pub fewer_runends : (w v : ℕ → ℕ) (j : ℕ) → (j < n q) ⊎ ((n q ≡ 0) × (j ≡ 0)) → Back m (start m n q + j) e.at w v → Filled m n' (last n') (λ t. w (t % m)) → Filled m n (last n) (λ t. v (t % m))
  unfolding last
  fewer_runends w v j c s old =
      filled_shrunk m n n' q one_more same r r' e (last n) (last n') j (inside c) (λ x i. ap (λ z. 1 - (z - suc i)) (r.per x))
      (λ i d. earlier c i d) (λ i d g. omega (arith, one_more)) (λ x d g i b. ap (λ z. 1 - (z - suc i)) (sym (same x d g)))
      (λ t. v (t % m)) (λ t. w (t % m)) (λ t. ap v (add-mod_right t m)) (λ t. ap w (add-mod_right t m)) s.moved s.cleared s.kept old
    where
      inside : (j < n q) ⊎ ((n q ≡ 0) × (j ≡ 0)) → j ≤ n q
      inside (inl p) = omega arith
      inside (inr p) = omega arith

      earlier : (j < n q) ⊎ ((n q ≡ 0) × (j ≡ 0)) → (i : ℕ) → i < j → last n q i ≡ last n' q i
      earlier (inl p) i d = last_inner n q i (omega arith) ∙ sym (last_inner n' q i (omega (arith, one_more)))
      earlier (inr p) i d = absurd (omega arith)

  pub record Removed (w v : Views) : Type 0 where
    pub occupied : v.occupied (f / R) ≡ min 1 (many m R l (f / R))
    pub occupied_other : (x : ℕ) → x < m → x ≢ f / R → v.occupied x ≡ w.occupied x
    pub remainders : Back m (start m (many m R l) (f / R) + place (f % R) (run R l (f / R))) (P.room m R pos l f h u k).at w.remainder v.remainder
    pub bit_place : ℕ
    pub bit_is : (bit_place < many m R l (f / R)) ⊎ ((many m R l (f / R) ≡ 0) × (bit_place ≡ 0))
    pub runends : Back m (start m (many m R l) (f / R) + bit_place) (P.room m R pos l f h u k).at w.runend v.runend
    -- x is the block's first slot, or a round on from it: the carry there is one less up to the slot cleared, and the same behind it
    pub offsets : (b x : ℕ) → 64 * b < m → f / R < x → x ≤ f / R + m → (x ≡ 64 * b) ⊎ (x ≡ 64 * b + m)
        → v.offset b ≡ min (carry m (many m R (more f l)) x - upto (P.room m R pos l f h u k).at x) 255

  pub fewer_image : (w v : Views) → Removed w v → Image m R (more f l) w → Image m R l v
  unfolding occ
  fewer_image w v c old = record {
    occupieds = λ x b. occs x b (ℕ_discrete x q);
    runends = fewer_runends w.runend v.runend c.bit_place c.bit_is c.runends old.runends;
    remainders = fewer_remainders w.remainder v.remainder c.remainders old.remainders;
    offsets = λ b d. offs b d (dec_lt q (64 * b));
  }
    where
      occs : (x : ℕ) → x < m → Dec (x ≡ q) → v.occupied x ≡ min 1 (n x)
      occs x b (yes z) = ap v.occupied z ∙ c.occupied ∙ ap (λ y. min 1 (n y)) (sym z)
      occs x b (no z) = c.occupied_other x b z ∙ old.occupieds x b ∙ ap (min 1) kept
        where
          kept : n' x ≡ n x
          kept = many_at m R (more f l) x b ∙ ap length (run_more_other R pos f l x (λ y. z (sym y))) ∙ sym (many_at m R l x b)

      less : (x : ℕ) → q < x → x ≤ q + m → carry m n' x - upto e.at x ≡ carry m n x
      less x a b = omega (arith, P.more_carry m R pos l f h u k x a b)

      offs : (b : ℕ) → 64 * b < m → Dec (q < 64 * b) → v.offset b ≡ min (carry m n (64 * b)) 255
      offs b d (yes y) = c.offsets b (64 * b) d y (omega arith) (inl refl) ∙ ap (λ z. min z 255) (less (64 * b) y (omega arith))
      offs b d (no y) =
          c.offsets b (64 * b + m) d (omega (arith, P.q< m R pos l f h u k)) (omega arith) (inr refl)
          ∙ ap (λ z. min z 255) (less (64 * b + m) (omega (arith, P.q< m R pos l f h u k)) (omega arith) ∙ carry_per m n r (64 * b))
