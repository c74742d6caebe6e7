-- What the walks over blocks promise of the carries and of the runs, and how the offset bytes tell it. Assumes nothing.
use Rattle.std.specs.Prelude.{ℕ, suc, ◌+◌, ◌-◌, ◌*◌, ◌%◌, ◌^◌, ◌≤◌, ◌<◌, ◌≡◌}
use Rattle.std.proofs.Common.{sym, ap, ◌∙◌, arith, mod-lt}
use Rattle.theory.specs.Image.{Views, carry, start}
use Rattle.theory.specs.carry.Carry.{mod_window, carry_per}
use Rattle.theory.specs.reading.BehindRun.{Runs}
use Rattle.theory.specs.reading.Offsets.{Offsets, known_block, carry_here}

-- how many blocks before block b the nearest one stands whose byte is below 255; 0 if no byte is
pub record NearestTold (B : ℕ) (v : Views) (b k : ℕ) : Type 0 where
  pub within : k ≤ B
  pub tells : 0 < k → v.offset ((b + B - k) % B) < 255
  pub none : k ≡ 0 → (c : ℕ) → c < B → 255 ≤ v.offset c

-- the carry before block b
pub record OffsetOf (m : ℕ) (v : Views) (b o : ℕ) : Type 0 where
  pub right : (n : ℕ → ℕ) → Runs m n v → Offsets m n v → o ≡ carry m n (64 * b)
  pub bound : o ≤ 2 ^ 60

-- the first slot of the run of x, and its last (of an empty run, the slot before the next quotient's)
pub record RunStart (m : ℕ) (v : Views) (x s : ℕ) : Type 0 where
  pub right : (n : ℕ → ℕ) → Runs m n v → Offsets m n v → s ≡ start m n x % m
  pub bound : s < m

pub record RunEnd (m : ℕ) (v : Views) (x s : ℕ) : Type 0 where
  pub right : (n : ℕ → ℕ) → Runs m n v → Offsets m n v → s ≡ (start m n (suc x) - 1) % m
  pub bound : s < m

-- a slot from x on that is `at` round the end
pub record Unrolled (m at x s : ℕ) : Type 0 where
  pub same : s % m ≡ at
  pub low : x ≤ s
  pub high : s < x + m

pub unrolled_is : (m at x s t : ℕ) → Unrolled m at x s → x ≤ t → t < x + m → at ≡ t % m → s ≡ t
unrolled_is m at x s t u a b e = mod_window m x s t u.low u.high a b (u.same ∙ e)

-- o is the carry before block j, where blocks go round
abbrev pub Tells : ℕ → Views → ℕ → ℕ → Type 0
Tells m v j o = (n : ℕ → ℕ) → Runs m n v → Offsets m n v → o ≡ carry m n (64 * j)

module _ (m B : ℕ) (v : Views) (whole : m ≡ 64 * B) (pos : 0 < B) where
  pub tells_byte : (j o : ℕ) → o ≡ v.offset (j % B) → o < 255 → Tells m v j o
  tells_byte j o e l n w f =
      let a : 64 * (j % B) < m = omega (arith, mod-lt j pos) in
      let b : o ≡ carry m n (64 * (j % B)) = omega (arith, f (j % B) a) in
      b ∙ sym (carry_here m B whole n w.round j)

  pub none_tells : (b : ℕ) → NearestTold B v b 0 → OffsetOf m v b 0
  none_tells b k = record { right = λ n w f. absurd (never n w f (known_block m B whole n w.round)); bound = omega arith }
    where
      never : (n : ℕ → ℕ) → Runs m n v → Offsets m n v → (c : ℕ) × (c < B) × (carry m n (64 * c) < 64) → ⊥
      never n w f p =
          let a : 64 * p.0 < m = omega (arith, p.1) in
          omega (arith, k.none (omega arith) p.0 p.1, f p.0 a, p.2)

  pub tells_end : (b o : ℕ) → Tells m v (b + B) o → o ≤ 2 ^ 60 → OffsetOf m v b o
  tells_end b o t l = record {
    right = λ n w f.
        let e : 64 * (b + B) ≡ 64 * b + m = omega arith in
        t n w f ∙ ap (carry m n) e ∙ carry_per m n w.round (64 * b);
    bound = l;
  }

-- a byte below 255 is the carry
pub byte_offset : (m : ℕ) (v : Views) (b o : ℕ) → 64 * b < m → o ≡ v.offset b → o < 255 → OffsetOf m v b o
byte_offset m v b o l e h = record { right = λ n w f. omega (arith, f b l); bound = omega arith }
