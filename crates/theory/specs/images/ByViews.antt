-- The image of a holding (docs/RULES.md, "The image of a holding"), by the four views of a buffer of m slots.
-- Assumes nothing.
use Rattle.std.specs.Prelude.{ℕ, suc, ◌+◌, ◌*◌, ◌%◌, ◌≤◌, ◌<◌, min, ◌≡◌, ◌⊎◌, List, length, get_or}
use Rattle.std.proofs.Common.{sym, ap, ◌∙◌, inl, inr, arith, mod-lt, mod-eq_of_lt, ext_get_or}
use Rattle.std.proofs.Math.Nat.{add-mod_right}
use Rattle.theory.specs.tools.Total.{total_same}
use Rattle.theory.specs.Holding.{run, Holding}
use Rattle.theory.specs.list.Runs.{same_runs, runs_total}
use Rattle.theory.specs.Image.{carry, start, occ, last, many, rest_at, Views, run_at}
use Rattle.theory.specs.carry.Carry.{Round, Free, FirstFree, first_free, free_start, start_le, start_carry, cover, per_all}
use Rattle.theory.specs.images.Filled.{Filled}
use Rattle.theory.specs.reading.RunendRank.{occ_ap}
use Rattle.theory.specs.images.CountsTold.{counts_same}

pub many_at : (m R : ℕ) (l : List ℕ) (x : ℕ) → x < m → many m R l x ≡ length (run R l x)
unfolding many run_at
many_at m R l x b = ap (λ z. length (run R l z)) (mod-eq_of_lt b)

pub rest_at_lem : (m R : ℕ) (l : List ℕ) (x j : ℕ) → x < m → rest_at m R l x j ≡ get_or (run R l x) j 0
unfolding rest_at run_at
rest_at_lem m R l x j b = ap (λ z. get_or (run R l z) j 0) (mod-eq_of_lt b)

pub record Image (m R : ℕ) (l : List ℕ) (v : Views) : Type 0 where
  pub occupieds : (x : ℕ) → x < m → v.occupied x ≡ occ (many m R l) x
  pub runends : Filled m (many m R l) (last (many m R l)) (λ t. v.runend (t % m))
  pub remainders : Filled m (many m R l) (rest_at m R l) (λ t. v.remainder (t % m))
  pub offsets : (b : ℕ) → 64 * b < m → v.offset b ≡ min (carry m (many m R l) (64 * b)) 255

pub many_round : (m R : ℕ) (l : List ℕ) → 0 < R → Holding m R l → Round m (many m R l)
unfolding many run_at
many_round m R l pos h = record {
  per = λ x. ap (λ z. length (run R l z)) (add-mod_right x m);
  few = omega (arith, h.fewer, runs_total R pos l m h.ascending h.under, total_same (many m R l) (λ x. length (run R l x)) m (λ i b. ap (λ z. length (run R l z)) (mod-eq_of_lt b)));
}

-- slots whose occupied bits, runend bits and remainders are laid out by two holdings are laid out by one: the offset bytes are not needed to tell
pub one_holding : (m R : ℕ) (l l' : List ℕ) (ends rests : ℕ → ℕ) → 0 < R → Holding m R l → Holding m R l'
    → ((x : ℕ) → x < m → occ (many m R l) x ≡ occ (many m R l') x)
    → Filled m (many m R l) (last (many m R l)) ends → Filled m (many m R l') (last (many m R l')) ends
    → Filled m (many m R l) (rest_at m R l) rests → Filled m (many m R l') (rest_at m R l') rests → l ≡ l'
unfolding many run_at rest_at
one_holding m R l l' ends rests pos h h' o e e' c c' = same_runs R pos l l' m h.ascending h.under h'.ascending h'.under runs
  where
    pos_m : 0 < m
    pos_m = omega (arith, h.fewer)

    r : Round m (many m R l)
    r = many_round m R l pos h

    r' : Round m (many m R l')
    r' = many_round m R l' pos h'

    up : (x : ℕ) → occ (many m R l) (x + m) ≡ occ (many m R l) x
    up x = occ_ap (many m R l) (x + m) x (r.per x)

    up' : (x : ℕ) → occ (many m R l') (x + m) ≡ occ (many m R l') x
    up' x = occ_ap (many m R l') (x + m) x (r'.per x)

    occs : (x : ℕ) → occ (many m R l) x ≡ occ (many m R l') x
    occs = per_all m _ (λ x e. up x ∙ e ∙ sym (up' x)) (λ x e. sym (up x) ∙ e ∙ up' x) pos_m 0 (λ x a b. o x (omega arith))

    same : many m R l ≡ many m R l'
    same = counts_same m (many m R l) (many m R l') ends r r' e e' occs

    runs : (x : ℕ) → x < m → run R l x ≡ run R l' x
    runs x b = rw (mod-eq_of_lt b) at all
      where
        len : many m R l x ≡ many m R l' x
        len = ap (λ n. n x) same

        all : run R l (x % m) ≡ run R l' (x % m)
        all = ext_get_or 0 (run R l (x % m)) (run R l' (x % m)) len
            (λ j k. sym (c.used x j k) ∙ ap (λ n. rests (start m n x + j)) same ∙ c'.used x j (omega (arith, len)))

-- cells laid out by one rule are the same cells
filled_same : (m : ℕ) (n : ℕ → ℕ) (c : ℕ → ℕ → ℕ) (cell cell' : ℕ → ℕ) → Round m n → Filled m n c cell → Filled m n c cell' → (t : ℕ) → m ≤ t → cell t ≡ cell' t
filled_same m n c cell cell' r a b t l = go (cover m n 0 (suc t) t low high)
  where
    z : FirstFree m n 0
    z = first_free m n r 0

    low : start m n 0 ≤ t
    low = omega (arith, start_le m n 0 z.at (omega arith), free_start m n z.at z.free, z.to)

    high : t < start m n (0 + suc t)
    high = omega (arith, start_carry m n (0 + suc t))

    go : ((x : ℕ) × (j : ℕ) × (0 ≤ x) × (x < 0 + suc t) × (j < n x) × (start m n x + j ≡ t)) ⊎ Free m n t → cell t ≡ cell' t
    go (inl p) = rw p.5 at (a.used p.0 p.1 p.4 ∙ sym (b.used p.0 p.1 p.4))
    go (inr f) = a.free t f ∙ sym (b.free t f)

-- a holding has one image at most
pub record Same (m : ℕ) (v w : Views) : Type 0 where
  pub occupieds : (x : ℕ) → x < m → v.occupied x ≡ w.occupied x
  pub runends : (x : ℕ) → x < m → v.runend x ≡ w.runend x
  pub remainders : (x : ℕ) → x < m → v.remainder x ≡ w.remainder x
  pub offsets : (b : ℕ) → 64 * b < m → v.offset b ≡ w.offset b

pub one_image : (m R : ℕ) (l : List ℕ) (v w : Views) → 0 < R → Holding m R l → Image m R l v → Image m R l w → Same m v w
one_image m R l v w pos h i j = record {
  occupieds = λ x b. i.occupieds x b ∙ sym (j.occupieds x b);
  runends = λ x b. rw (slot x b) at (filled_same m (many m R l) (last (many m R l)) (λ t. v.runend (t % m)) (λ t. w.runend (t % m)) r i.runends j.runends (x + m) (omega arith));
  remainders = λ x b. rw (slot x b) at (filled_same m (many m R l) (rest_at m R l) (λ t. v.remainder (t % m)) (λ t. w.remainder (t % m)) r i.remainders j.remainders (x + m) (omega arith));
  offsets = λ x b. i.offsets x b ∙ sym (j.offsets x b);
}
  where
    r : Round m (many m R l)
    r = many_round m R l pos h

    slot : (x : ℕ) → x < m → (x + m) % m ≡ x
    slot x b = add-mod_right x m ∙ mod-eq_of_lt b

-- cells that agree are laid out by one rule
pub filled_as : (m : ℕ) (n : ℕ → ℕ) (c : ℕ → ℕ → ℕ) (f g : ℕ → ℕ) → 0 < m → ((s : ℕ) → s < m → f s ≡ g s) → Filled m n c (λ t. g (t % m)) → Filled m n c (λ t. f (t % m))
filled_as m n c f g p e h = record {
  used = λ x j l. e ((start m n x + j) % m) (mod-lt (start m n x + j) p) ∙ h.used x j l;
  free = λ t z. e (t % m) (mod-lt t p) ∙ h.free t z;
}
