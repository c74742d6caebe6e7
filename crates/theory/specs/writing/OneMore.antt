-- Insert, at the level of the image: which changes to the views turn the image of a holding into that of one copy more.
-- Assumes nothing.
use Prim.Native.Nat.{ℕ, suc, ◌+◌, ◌-◌, ◌*◌, ◌/◌, ◌%◌, ◌≤◌, ◌<◌, min}
use Rattle.std.specs.Prelude.{◌≡◌, refl, ◌⊎◌, ◌≢◌, List}
use Rattle.std.proofs.Common.{sym, ◌∙◌, inl, inr, mod-eq_of_lt, div-lt_iff_lt-mul}
use Rattle.std.proofs.Math.Path.{ap}
use native.Mathlib.Omega.{arith}
use Rattle.std.proofs.Math.Decide.{dec_lt, ℕ_discrete}
use Rattle.std.proofs.Math.Nat.{add-mod_right}
use Rattle.std.proofs.Math.ListN.{length, get_or}
use Rattle.theory.specs.Holding.{run, more, Holding}
use Rattle.theory.specs.list.More.{place, place_le, more_before, more_at, more_after, more_length, more_under, more_ascending, run_more_here, run_more_other}
use Rattle.theory.specs.Image.{carry, start, occ, last, Views, run_at, many, rest_at}
use Rattle.theory.specs.carry.Carry.{Round, FirstFree, first_free, carry_per, mod_window}
use Rattle.theory.specs.carry.CarryMore.{upto, carry_grown}
use Rattle.theory.specs.images.Filled.{Filled, filled_grown}
use Rattle.theory.specs.reading.RunendRank.{last_inner, last_end, occ_both, occ_some}
use Rattle.theory.specs.images.ByViews.{Image, many_round, many_at, rest_at_lem}

-- what stood in the slots from a to before e stands one further on; behind e, as far as a comes round again, nothing has changed
pub record Shifted (m a e : ℕ) (old new : ℕ → ℕ) : Type 0 where
  pub moved : (t : ℕ) → a ≤ t → t < e → new (suc t % m) ≡ old (t % m)
  pub kept : (t : ℕ) → e < t → t < a + m → new (t % m) ≡ old (t % m)

pub more_holding : (m R f : ℕ) (l : List ℕ) → Holding m R l → f < m * R → suc (length l) < m → Holding m R (more f l)
more_holding m R f l h u k = record { ascending = more_ascending f l h.ascending; under = more_under (m * R) f l u h.under; fewer = omega (arith, more_length f l) }

module _ (m R : ℕ) (pos : 0 < R) (l : List ℕ) (f : ℕ) (h : Holding m R l) (u : f < m * R) (k : suc (length l) < m) where
  abbrev pub n : ℕ → ℕ
  n = many m R l

  abbrev pub n' : ℕ → ℕ
  n' = many m R (more f l)

  abbrev pub q : ℕ
  q = f / R

  pub q< : q < m
  q< = (div-lt_iff_lt-mul pos).1 u

  pub r : Round m n
  r = many_round m R l pos h

  pub r' : Round m n'
  r' = many_round m R (more f l) pos (more_holding m R f l h u k)

  -- the first free slot from the quotient on
  pub room : FirstFree m n (f / R)
  room = first_free m n r q

  pub one_more : n' q ≡ suc (n q)
  one_more = many_at m R (more f l) q q< ∙ ap length (run_more_here R pos f l q refl h.ascending) ∙ more_length (f % R) (run R l q) ∙ ap suc (sym (many_at m R l q q<))

  pub other : (x : ℕ) → q < x → x < q + m → q ≢ x % m
  other x a b e = omega (arith, mod_window m q q x (omega arith) (omega (arith, q<)) (omega arith) b (mod-eq_of_lt q< ∙ e))

  pub same_run : (x : ℕ) → q < x → x < q + m → run_at m R (more f l) x ≡ run_at m R l x
  unfolding run_at
  same_run x a b = run_more_other R pos f l (x % m) (other x a b)

  pub same : (x : ℕ) → q < x → x < q + m → n' x ≡ n x
  unfolding many
  same x a b = ap length (same_run x a b)

  -- the place in the run
  abbrev pub i : ℕ
  i = place (f % R) (run R l q)

  pub i≤ : i ≤ n q
  i≤ = omega (arith, place_le (f % R) (run R l q), many_at m R l q q<)

  pub rest_grown : (j : ℕ) → rest_at m R (more f l) q j ≡ get_or (more (f % R) (run R l q)) j 0
  rest_grown j = rest_at_lem m R (more f l) q j q< ∙ ap (λ z. get_or z j 0) (run_more_here R pos f l q refl h.ascending)

  pub rest_per : (g : List ℕ) (x j : ℕ) → rest_at m R g (x + m) j ≡ rest_at m R g x j
  unfolding rest_at run_at
  rest_per g x j = ap (λ z. get_or (run R g z) j 0) (add-mod_right x m)

  pub rest_other : (x : ℕ) → q < x → x < q + m → (j : ℕ) → j < n x → rest_at m R (more f l) x j ≡ rest_at m R l x j
  unfolding rest_at
  rest_other x a b j c = ap (λ z. get_or z j 0) (same_run x a b)

  pub more_remainders : (v w : ℕ → ℕ) → Shifted m (start m n q + i) room.at v w → w ((start m n q + i) % m) ≡ f % R
      → Filled m n (rest_at m R l) (λ t. v (t % m)) → Filled m n' (rest_at m R (more f l)) (λ t. w (t % m))
  more_remainders v w s new old =
      filled_grown m n n' q one_more same r r' room (rest_at m R l) (rest_at m R (more f l)) i (f % R) i≤ (rest_per (more f l))
      (λ j c. rest_grown j ∙ more_before (f % R) (run R l q) j c ∙ sym (rest_at_lem m R l q j q<))
      (rest_grown i ∙ more_at (f % R) (run R l q))
      (λ j c d. rest_grown (suc j) ∙ more_after (f % R) (run R l q) j c ∙ sym (rest_at_lem m R l q j q<))
      rest_other
      (λ t. v (t % m)) (λ t. w (t % m)) (λ t. ap v (add-mod_right t m)) (λ t. ap w (add-mod_right t m)) new s.moved s.kept old

  -- A runend bit is put in front of the run's last, and is 0, or it is the only one, and is 1.
  pub more_runends : (v w : ℕ → ℕ) (j b : ℕ) → ((j < n q) × (b ≡ 0)) ⊎ ((n q ≡ 0) × (j ≡ 0) × (b ≡ 1)) → Shifted m (start m n q + j) room.at v w → w ((start m n q + j) % m) ≡ b
      → Filled m n (last n) (λ t. v (t % m)) → Filled m n' (last n') (λ t. w (t % m))
  unfolding last
  more_runends v w j b c s new old =
      filled_grown m n n' q one_more same r r' room (last n) (last n') j b (inside c) (λ x i. ap (λ z. 1 - (z - suc i)) (r'.per x))
      (λ i d. earlier c i d) (at c) (λ i d e. omega (arith, one_more)) (λ x d e i g. ap (λ z. 1 - (z - suc i)) (same x d e))
      (λ t. v (t % m)) (λ t. w (t % m)) (λ t. ap v (add-mod_right t m)) (λ t. ap w (add-mod_right t m)) new s.moved s.kept old
    where
      inside : ((j < n q) × (b ≡ 0)) ⊎ ((n q ≡ 0) × (j ≡ 0) × (b ≡ 1)) → j ≤ n q
      inside (inl p) = omega arith
      inside (inr p) = omega arith

      at : ((j < n q) × (b ≡ 0)) ⊎ ((n q ≡ 0) × (j ≡ 0) × (b ≡ 1)) → last n' q j ≡ b
      at (inl p) = omega (arith, last_inner n' q j (omega (arith, one_more)))
      at (inr p) = omega (arith, last_end n' q j (omega (arith, one_more)))

      earlier : ((j < n q) × (b ≡ 0)) ⊎ ((n q ≡ 0) × (j ≡ 0) × (b ≡ 1)) → (i : ℕ) → i < j → last n' q i ≡ last n q i
      earlier (inl p) i d = last_inner n' q i (omega (arith, one_more)) ∙ sym (last_inner n q i (omega arith))
      earlier (inr p) i d = absurd (omega arith)

  pub more_carry : (x : ℕ) → q < x → x ≤ q + m → carry m n' x ≡ carry m n x + upto room.at x
  more_carry x a b = carry_grown m n n' q one_more same r r' room x a b

  pub more_offset : (x : ℕ) → q < x → x ≤ q + m → min (carry m n' x) 255 ≡ min (min (carry m n x) 255 + upto room.at x) 255
  more_offset x a b = omega (arith, more_carry x a b)

  -- The whole: what a writer has to have done to the views v, for its views w to be the image of one copy more.
  pub record Inserted (v w : Views) : Type 0 where
    pub occupied : w.occupied (f / R) ≡ 1
    pub occupied_other : (x : ℕ) → x < m → x ≢ f / R → w.occupied x ≡ v.occupied x
    pub remainder : w.remainder ((start m (many m R l) (f / R) + place (f % R) (run R l (f / R))) % m) ≡ f % R
    pub remainders : Shifted m (start m (many m R l) (f / R) + place (f % R) (run R l (f / R))) room.at v.remainder w.remainder
    -- the place of the new runend bit, and the bit: it is put in front of the run's last one, and is 0, or is the only one, and is 1
    pub bit_place : ℕ
    pub bit : ℕ
    pub bit_is : ((bit_place < many m R l (f / R)) × (bit ≡ 0)) ⊎ ((many m R l (f / R) ≡ 0) × (bit_place ≡ 0) × (bit ≡ 1))
    pub runend : w.runend ((start m (many m R l) (f / R) + bit_place) % m) ≡ bit
    pub runends : Shifted m (start m (many m R l) (f / R) + bit_place) room.at v.runend w.runend
    -- x is the block's first slot, or a round on from it
    pub offsets : (b x : ℕ) → 64 * b < m → f / R < x → x ≤ f / R + m → (x ≡ 64 * b) ⊎ (x ≡ 64 * b + m) → w.offset b ≡ min (v.offset b + upto room.at x) 255

  pub more_image : (v w : Views) → Inserted v w → Image m R l v → Image m R (more f l) w
  more_image v w c old = record {
    occupieds = λ x b. occs x b (ℕ_discrete x q);
    runends = more_runends v.runend w.runend c.bit_place c.bit c.bit_is c.runends c.runend old.runends;
    remainders = more_remainders v.remainder w.remainder c.remainders c.remainder old.remainders;
    offsets = λ b d. offs b d (dec_lt q (64 * b));
  }
    where
      occs : (x : ℕ) → x < m → Dec (x ≡ q) → w.occupied x ≡ occ n' x
      occs x b (yes e) = ap w.occupied e ∙ c.occupied ∙ sym (occ_some n' x (rw e (omega (arith, one_more))))
      occs x b (no e) = c.occupied_other x b e ∙ old.occupieds x b ∙ kept
        where
          kept : occ n x ≡ occ n' x
          kept = occ_both n n' x (many_at m R l x b ∙ sym (ap length (run_more_other R pos f l x (λ z. e (sym z)))) ∙ sym (many_at m R (more f l) x b))

      offs : (b : ℕ) → 64 * b < m → Dec (q < 64 * b) → w.offset b ≡ min (carry m n' (64 * b)) 255
      offs b d (yes e) = c.offsets b (64 * b) d e (omega arith) (inl refl) ∙ ap (λ z. min (z + upto room.at (64 * b)) 255) (old.offsets b d) ∙ sym (more_offset (64 * b) e (omega arith))
      offs b d (no e) =
          c.offsets b (64 * b + m) d (omega (arith, q<)) (omega arith) (inr refl)
          ∙ ap (λ z. min (z + upto room.at (64 * b + m)) 255) (old.offsets b d ∙ ap (λ z. min z 255) (sym (carry_per m n r (64 * b))))
          ∙ sym (more_offset (64 * b + m) (omega (arith, q<)) (omega arith)) ∙ ap (λ z. min z 255) (carry_per m n' r' (64 * b))
