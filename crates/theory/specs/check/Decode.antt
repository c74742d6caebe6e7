-- What a check reads, quotient by quotient: a buffer is an image exactly if it can be read so, once round, and the reading comes back to the slot where it began.
-- Assumes nothing.
use Prim.Native.Nat.{ℕ, zero, suc, ◌+◌, ◌-◌, ◌*◌, ◌%◌, ◌≤◌, ◌<◌, min, max}
use Rattle.std.specs.Prelude.{◌≡◌, List}
use Rattle.std.proofs.Math.Path.{sym, ap}
use Rattle.std.proofs.Common.{◌∙◌, zero-add, mod-eq_of_lt}
use native.Mathlib.Omega.{arith}
use Rattle.std.proofs.Math.Decide.{ℕ_discrete}
use Rattle.std.proofs.Math.Nat.{add-mod_right}
use Rattle.std.proofs.Math.ListN.{length, get_or}
use Rattle.theory.specs.tools.Total.{total}
use Rattle.theory.specs.Holding.{Ascending, Under, run, Holding}
use Rattle.theory.specs.list.Flat.{flat_under, flat_ascending, run_flat}
use Rattle.theory.specs.list.Runs.{flat, length_flat, runs_total, run_under, run_ascending}
use Rattle.theory.specs.Image.{carry, start, walk, occ, last, Views, run_at, many, rest_at}
use Rattle.theory.specs.carry.Carry.{Round, Free, start_suc, start_carry, start_per}
use Rattle.theory.specs.carry.Walk.{walk_closes}
use Rattle.theory.specs.images.Filled.{Filled, filled_round}
use Rattle.theory.specs.reading.RunendRank.{last_inner, last_end}
use Rattle.theory.specs.images.ByViews.{Image, many_round, many_at}

-- `runs x` are the remainders read for the quotient x, from the slot `pos x` on
pub record Decoded (m R : ℕ) (v : Views) (runs : ℕ → List ℕ) (pos : ℕ → ℕ) : Type 0 where
  pub next : (x : ℕ) → x < m → pos (suc x) ≡ max (suc x) (pos x + length (runs x))
  pub closes : pos m ≡ pos 0 + m
  pub fewer : total (λ x. length (runs x)) m < m
  pub ascending : (x : ℕ) → x < m → Ascending (runs x)
  pub under : (x : ℕ) → x < m → Under R (runs x)
  pub occupied : (x : ℕ) → x < m → v.occupied x ≡ min 1 (length (runs x))
  pub remainder : (x : ℕ) → x < m → (j : ℕ) → j < length (runs x) → v.remainder ((pos x + j) % m) ≡ get_or (runs x) j 0
  pub inner : (x : ℕ) → x < m → (j : ℕ) → suc j < length (runs x) → v.runend ((pos x + j) % m) ≡ 0
  pub final : (x : ℕ) → x < m → (j : ℕ) → suc j ≡ length (runs x) → v.runend ((pos x + j) % m) ≡ 1
  pub free_remainder : (x : ℕ) → x < m → pos x + length (runs x) ≡ x → v.remainder x ≡ 0
  pub free_runend : (x : ℕ) → x < m → pos x + length (runs x) ≡ x → v.runend x ≡ 0
  pub offset : (b : ℕ) → 64 * b < m → v.offset b ≡ min (pos (64 * b) - 64 * b) 255

module _ (m R : ℕ) (pos-R : 0 < R) (v : Views) (runs : ℕ → List ℕ) (pos : ℕ → ℕ) (d : Decoded m R v runs pos) where
  abbrev l : List ℕ
  l = flat R runs m

  abbrev n : ℕ → ℕ
  n = many m R l

  pub decoded_holding : Holding m R (flat R runs m)
  decoded_holding = record { ascending = flat_ascending R runs m d.under d.ascending; under = flat_under R runs m d.under; fewer = omega (arith, d.fewer, length_flat R runs m) }

  run_is : (x : ℕ) → x < m → run_at m R l x ≡ runs x
  unfolding run_at
  run_is x b = ap (run R (flat R runs m)) (mod-eq_of_lt b) ∙ run_flat R runs m x d.under b

  n_is : (x : ℕ) → x < m → n x ≡ length (runs x)
  unfolding many
  n_is x b = ap length (run_is x b)

  round : Round m n
  round = many_round m R l pos-R decoded_holding

  pos_walk : (x : ℕ) → x ≤ m → pos x ≡ x + walk n (pos 0) x
  unfolding walk
  pos_walk zero b = omega arith
  pos_walk (suc x) b = omega (arith, pos_walk x (omega arith), d.next x b, n_is x b)

  begins : pos 0 ≡ walk n 0 m
  begins = walk_closes n (pos 0) m round.few (omega (arith, pos_walk m (omega arith), d.closes))

  start_is : (x : ℕ) → x ≤ m → start m n x ≡ pos x
  unfolding start carry
  start_is x b = ap (λ c. x + walk n c x) (sym begins) ∙ sym (pos_walk x b)

  ends : Filled m n (last n) (λ t. v.runend (t % m))
  unfolding last
  ends = filled_round m n (last n) (λ t. v.runend (t % m)) round (λ x j. ap (λ z. 1 - (z - suc j)) (round.per x)) (λ t. ap v.runend (add-mod_right t m)) 0 used free
    where
      used : (x : ℕ) → 0 ≤ x → x < 0 + m → (j : ℕ) → j < n x → v.runend ((start m n x + j) % m) ≡ last n x j
      used x a b j k = ap (λ s. v.runend ((s + j) % m)) (start_is x (omega arith)) ∙ go (ℕ_discrete (suc j) (n x))
        where
          go : Dec (suc j ≡ n x) → v.runend ((pos x + j) % m) ≡ last n x j
          go (yes e) = d.final x (omega arith) j (omega (arith, n_is x (omega arith))) ∙ sym (last_end n x j e)
          go (no e) = d.inner x (omega arith) j (omega (arith, n_is x (omega arith))) ∙ sym (last_inner n x j (omega arith))

      free : (t : ℕ) → 0 ≤ t → t < 0 + m → Free m n t → v.runend (t % m) ≡ 0
      free t a b f =
          let h : t < m = omega arith in
          ap v.runend (mod-eq_of_lt h) ∙ d.free_runend t h (omega (arith, start_is t (omega arith), start_carry m n t, n_is t h))

  rests : Filled m n (rest_at m R l) (λ t. v.remainder (t % m))
  unfolding rest_at run_at
  rests = filled_round m n (rest_at m R l) (λ t. v.remainder (t % m)) round (λ x j. ap (λ z. get_or (run R l z) j 0) (add-mod_right x m)) (λ t. ap v.remainder (add-mod_right t m)) 0 used free
    where
      used : (x : ℕ) → 0 ≤ x → x < 0 + m → (j : ℕ) → j < n x → v.remainder ((start m n x + j) % m) ≡ rest_at m R l x j
      used x a b j k =
          let h : x < m = omega arith in
          ap (λ s. v.remainder ((s + j) % m)) (start_is x (omega arith)) ∙ d.remainder x h j (omega (arith, n_is x h)) ∙ ap (λ z. get_or z j 0) (sym (run_is x h))

      free : (t : ℕ) → 0 ≤ t → t < 0 + m → Free m n t → v.remainder (t % m) ≡ 0
      free t a b f =
          let h : t < m = omega arith in
          ap v.remainder (mod-eq_of_lt h) ∙ d.free_remainder t h (omega (arith, start_is t (omega arith), start_carry m n t, n_is t h))

  pub decoded_image : Image m R (flat R runs m) v
  unfolding occ
  decoded_image = record {
    occupieds = λ x b. d.occupied x b ∙ ap (min 1) (sym (n_is x b));
    runends = ends;
    remainders = rests;
    offsets = λ b h. d.offset b h ∙ ap (λ z. min z 255) (gap (64 * b) h);
  }
    where
      gap : (x : ℕ) → x < m → pos x - x ≡ carry m n x
      gap x h = omega (arith, start_is x (omega arith), start_carry m n x)

-- The other way: an image is read so, from the first slot of quotient 0's run on.
module _ (R : ℕ) (pos-R : 0 < R) where
  pub image_decoded : (m : ℕ) (l : List ℕ) (v : Views) → Holding m R l → Image m R l v → Decoded m R v (run R l) (start m (many m R l))
  unfolding occ rest_at run_at
  image_decoded m l v h i = record {
    next = λ x b. rw (← n_is x b) (start_suc m (many m R l) x);
    closes = sym (ap (start m (many m R l)) (zero-add m)) ∙ start_per m (many m R l) r 0;
    fewer = omega (arith, h.fewer, runs_total R pos-R l m h.ascending h.under);
    ascending = λ x b. run_ascending R pos-R l x h.ascending;
    under = λ x b. run_under R pos-R l x;
    occupied = λ x b. i.occupieds x b ∙ ap (min 1) (n_is x b);
    remainder = λ x b j k. i.remainders.used x j (omega (arith, n_is x b)) ∙ ap (λ z. get_or (run R l z) j 0) (mod-eq_of_lt b);
    inner = λ x b j k. i.runends.used x j (omega (arith, n_is x b)) ∙ last_inner (many m R l) x j (omega (arith, n_is x b));
    final = λ x b j k. i.runends.used x j (omega (arith, n_is x b)) ∙ last_end (many m R l) x j (omega (arith, n_is x b));
    free_remainder = λ x b e. sym (ap v.remainder (mod-eq_of_lt b)) ∙ i.remainders.free x (omega (arith, n_is x b, start_carry m (many m R l) x));
    free_runend = λ x b e. sym (ap v.runend (mod-eq_of_lt b)) ∙ i.runends.free x (omega (arith, n_is x b, start_carry m (many m R l) x));
    offset = λ b k. i.offsets b k ∙ ap (λ z. min z 255) (gap (64 * b));
  }
    where
      r : Round m (many m R l)
      r = many_round m R l pos-R h

      n_is : (x : ℕ) → x < m → many m R l x ≡ length (run R l x)
      n_is x b = many_at m R l x b

      gap : (x : ℕ) → carry m (many m R l) x ≡ start m (many m R l) x - x
      gap x = omega (arith, start_carry m (many m R l) x)
