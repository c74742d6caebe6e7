-- Where a run starts, told from slot x on: behind the runends of the runs that are not over there. Assumes nothing.
use Rattle.std.specs.Prelude.{ℕ, zero, suc, ◌+◌, ◌-◌, ◌*◌, ◌/◌, ◌%◌, ◌^◌, ◌≤◌, ◌<◌, ◌≡◌, ◌⊎◌}
use Rattle.std.proofs.Common.{sym, ap, ◌∙◌, inl, inr, arith, mod-eq_of_lt, mod-lt, eq-zero-or-pos, add-zero}
use Rattle.std.proofs.Math.Nat.{add-mod_right}
use Rattle.std.proofs.Math.Arith.{mod-mul}
use Rattle.theory.specs.tools.Total.{total, total_suc, total_le, select_unique}
use Rattle.theory.specs.number.Field.{field, field_lt}
use Rattle.theory.specs.number.Count.{rank, rank_low, rank_suc, rank_mod, rank_zero}
use Rattle.theory.specs.Image.{Views, carry, start}
use Rattle.theory.specs.carry.Carry.{start_carry}
use Rattle.theory.specs.images.Block.{views, word_at, offset_at}
use Rattle.theory.specs.reading.Ring.{ring_at, ring_bit, ring_rank, high_one}
use Rattle.theory.specs.reading.RunendRank.{rank_start}
use Rattle.theory.specs.reading.RunEnd.{shifted_end}
use Rattle.theory.specs.reading.Offsets.{Offsets, carry_lt}
use Rattle.theory.specs.reading.BehindRun.{Runs, occupied_count}
use Rattle.theory.specs.Select.{Selects, place}
use Rattle.theory.specs.reading.Walks.{RunStart}

-- the runend bits round and round
abbrev ends : ℕ → Views → ℕ → ℕ
ends m v t = v.runend (t % m)

-- n runends stand from slot x on before the run of x starts
abbrev pub Pending : ℕ → Views → ℕ → ℕ → Type 0
Pending m v x n = (c : ℕ → ℕ) → Runs m c v → Offsets m c v → total (ends m v) (start m c x) ≡ total (ends m v) x + n

module _ (m : ℕ) (v : Views) (x : ℕ) where
  abbrev E : ℕ → ℕ
  E = ends m v

  -- where the run of x is shifted, the slot before it has the last of the runends
  shifted : (c : ℕ → ℕ) → Runs m c v → 0 < carry m c x → (E (start m c x - 1) ≡ 1) × (total E (start m c x) ≡ suc (total E (start m c x - 1))) × (x ≤ start m c x - 1)
  shifted c w p =
      let e : suc (start m c x - 1) ≡ start m c x = omega (arith, start_carry m c x) in
      let one = shifted_end m c E w.round (λ t. ap v.runend (add-mod_right t m)) w.runends x p in
      (one, sym (ap (total E) e) ∙ omega (arith, total_suc E (start m c x - 1)), omega (arith, start_carry m c x))

  -- none: it starts in slot x
  pub start_here : x < m → Pending m v x 0 → RunStart m v x x
  start_here l h = record { right = λ c w f. sym (ap (λ z. z % m) (is c w f (eq-zero-or-pos (carry m c x))) ∙ mod-eq_of_lt l); bound = l }
    where
      is : (c : ℕ → ℕ) → Runs m c v → Offsets m c v → (carry m c x ≡ 0) ⊎ (0 < carry m c x) → start m c x ≡ x
      is c w f (inl z) = omega (arith, start_carry m c x)
      is c w f (inr p) =
          let s = shifted c w p in
          absurd (omega (arith, h c w f, s.1, total_le E x (start m c x - 1) s.2))

  -- else it starts behind the last of them
  pub start_told : (n p : ℕ) → x < m → 0 < n → E p ≡ 1 → total E p ≡ total E x + (n - 1) → Pending m v x n → RunStart m v x ((p + 1) % m)
  start_told n p l some one e h = record { right = λ c w f. ap (λ z. z % m) (sym (is c w f (eq-zero-or-pos (carry m c x)))); bound = mod-lt (p + 1) (omega arith) }
    where
      is : (c : ℕ → ℕ) → Runs m c v → Offsets m c v → (carry m c x ≡ 0) ⊎ (0 < carry m c x) → start m c x ≡ p + 1
      is c w f (inl z) =
          let s : start m c x ≡ x = omega (arith, start_carry m c x) in
          absurd (omega (arith, h c w f, ap (total E) s))
      is c w f (inr k) =
          let s = shifted c w k in
          let q : p ≡ start m c x - 1 = select_unique E p (start m c x - 1) (omega arith) (omega (arith, s.0)) (omega (arith, h c w f, s.1)) in
          omega (arith, start_carry m c x)

  -- and a round has so many
  pub start_missing : (n B : ℕ) → m ≡ 64 * B → x < m → 0 < n → total E (x + m) ≤ total E x + (n - 1) → Pending m v x n → RunStart m v x x
  start_missing n B whole l some few h = record {
    right = λ c w f. absurd (omega (arith, h c w f, total_le E (start m c x) (x + m) (omega (arith, start_carry m c x, carry_lt m B whole c w.round x))));
    bound = l;
  }

-- a word shifted up by one, with a one below: that one, and those of the word
rank_odd : (y z q : ℕ) → z ≡ y * 2 ^ 1 % 2 ^ 64 + 1 → q ≤ 63 → rank z (suc q) ≡ suc (rank y q)
rank_odd y z q e l =
    let d : y * 2 / 2 ≡ y = omega arith in
    let t : y * 2 % 2 ^ 64 ≡ y % 2 ^ 63 * 2 = mod-mul (y * 2) {m = 2 ^ 63} {c = 2} (omega arith) (omega arith) ∙ rw d (omega arith) in
    let h : z / 2 ≡ y % 2 ^ 63 = omega arith in
    omega (arith, rank_low z q, ap (λ u. rank u q) h, rank_mod y 63 q l)

module _ (r buf m B x : ℕ) (whole : m ≡ 64 * B) (l : x < m) where
  abbrev R : ℕ → ℕ
  R = ring_at r 9 m buf

  -- the runends of x's block are those of its word
  word : (j : ℕ) → j ≤ 64 → total R (64 * (x / 64) + j) ≡ total R (64 * (x / 64)) + rank (word_at r 9 buf (x / 64)) j
  word j h =
      let p : x / 64 % B ≡ x / 64 = mod-eq_of_lt (omega arith) in
      rw whole (rw p at (ring_rank r 9 buf B (x / 64) j (omega arith) h))

  bit : (j : ℕ) → j < 64 → R (64 * (x / 64) + j) ≡ field (word_at r 9 buf (x / 64)) j 1
  bit j h =
      let p : x / 64 % B ≡ x / 64 = mod-eq_of_lt (omega arith) in
      rw whole (rw p at (ring_bit r 9 buf B (x / 64) j (omega arith) h))

  small : word_at r 9 buf (x / 64) < 2 ^ 64
  unfolding word_at
  small = field_lt buf _ 64

  here : 64 * (x / 64) + x % 64 ≡ x
  here = omega arith

  -- k quotients of the block before x are occupied, and e runends stand from the offset o to before slot x, where it falls before it
  module _ (o k e : ℕ) (eo : o ≡ offset_at r buf (x / 64)) (near : o ≤ x % 64) (ek : k ≡ rank (word_at r 1 buf (x / 64)) (x % 64))
      (ee : e + rank (word_at r 9 buf (x / 64)) o ≡ rank (word_at r 9 buf (x / 64)) (x % 64)) where
    level : (c : ℕ → ℕ) → Runs m c (views r buf) → Offsets m c (views r buf) → total R (start m c x) + e ≡ total R x + k
    level c w f =
        let b = x / 64 in
        let d : o ≡ carry m c (64 * b) = omega (arith, f b (omega arith)) in
        let s : start m c (64 * b) ≡ 64 * b + o = start_carry m c (64 * b) ∙ ap (λ z. 64 * b + z) (sym d) in
        omega (
          arith,
          rank_start m c R w.runends (64 * b),
          rank_start m c R w.runends x,
          rw here at (occupied_count r buf m B whole c w b (x % 64) (omega arith) (omega arith)),
          ap (total R) s,
          word o (omega arith),
          rw here at (word (x % 64) (omega arith)),
        )

    pub pending_near : e ≤ k → Pending m (views r buf) x (k - e)
    pending_near h c w f = omega (arith, level c w f)

    -- more ended than began: on a damaged buffer only
    pub never_near : k < e → RunStart m (views r buf) x x
    never_near h = record { right = λ c w f. absurd (omega (arith, level c w f, total_le R x (start m c x) (omega (arith, start_carry m c x)))); bound = l }

  -- the word from slot x on, shifted up by one, with a one below: where its n-th one is, the run starts
  module _ (n z : ℕ) (ez : z ≡ word_at r 9 buf (x / 64) / 2 ^ (x % 64) * 2 ^ 1 % 2 ^ 64 + 1) (h : Pending m (views r buf) x n) where
    pub start_near : (p : ℕ) → Selects z n (place p) → RunStart m (views r buf) x ((x + p) % m)
    start_near zero t =
        let e : n ≡ 0 = omega (arith, t.2, rank_zero z) in
        rw (add-zero x, mod-eq_of_lt l) (start_here m (views r buf) x l (rw e at h))
    start_near (suc q) t =
        let i = x % 64 in
        let w = word_at r 9 buf (x / 64) in
        let a = rank_odd _ z q ez (omega (arith, t.0)) in
        let d = rank_odd _ z (suc q) ez (omega (arith, t.0)) in
        let one : field (w / 2 ^ i) q 1 ≡ 1 = omega (arith, rank_suc z (suc q), rank_suc (w / 2 ^ i) q, t.1) in
        let g = high_one w i q (n - 1) one (omega (arith, t.2)) small in
        let e : 64 * (x / 64) + (i + q) + 1 ≡ x + suc q = omega arith in
        rw e at (start_told m (views r buf) x n (64 * (x / 64) + (i + q)) l (omega (arith, t.2)) (bit (i + q) g.0 ∙ g.1) (omega (arith, word (i + q) (omega (arith, g.0)), rw here at (word i (omega arith)), g.2)) h)

    pub some_near : rank z 64 ≤ n → 0 < n
    some_near t = omega (arith, rank_odd _ z 63 ez (omega arith))
