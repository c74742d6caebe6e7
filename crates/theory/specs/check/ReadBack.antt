-- The reading of a buffer as a function of its views and of the carry c before quotient 0, and what a check has to test of it, bit by bit.
-- Assumes nothing.
use Prim.Native.Nat.{ℕ, zero, suc, ◌+◌, ◌-◌, ◌*◌, ◌%◌, ◌≤◌, ◌<◌, min, max}
use Rattle.std.specs.Prelude.{◌≡◌, refl, List, [], ◌∷◌, get_or}
use Rattle.std.proofs.Math.Path.{sym, ap}
use Rattle.std.proofs.Common.{◌∙◌, arith, add-zero, mod-lt, le_trans}
use Rattle.std.proofs.Math.Decide.{dec_le}
use Rattle.std.proofs.Math.ListN.{length}
use Rattle.theory.specs.tools.Choose.{choose, choose_yes, choose_no, choose_by}
use Rattle.theory.specs.tools.Total.{total, total_same}
use Rattle.theory.specs.Holding.{Least, Ascending, Under, Holding}
use Rattle.theory.specs.list.Runs.{flat}
use Rattle.theory.specs.Image.{Views}
use Rattle.theory.specs.images.ByViews.{Image}
use Rattle.theory.specs.check.Decode.{Decoded, decoded_holding, decoded_image}

-- how many slots from p on come before the first with a runend bit; k if none of k has one
unfoldable pub gap : (ℕ → ℕ) → ℕ → ℕ → ℕ
gap E zero p = 0
gap E (suc k) p = choose (dec_le 1 (E p)) 0 (suc (gap E k (suc p)))

-- k cells from p on
unfoldable pub cut : (ℕ → ℕ) → ℕ → ℕ → List ℕ
cut f p zero = []
cut f p (suc k) = f p ∷ cut f (suc p) k

-- how many slots are read for the quotient x from p on, and from where it is read
unfoldable pub len : ℕ → Views → ℕ → ℕ → ℕ
len m v x p = choose (dec_le 1 (v.occupied x)) (suc (gap (λ t. v.runend (t % m)) m p)) 0

unfoldable pub pos : ℕ → Views → ℕ → ℕ → ℕ
pos m v c zero = c
pos m v c (suc x) = max (suc x) (pos m v c x + len m v x (pos m v c x))

abbrev pub size : ℕ → Views → ℕ → ℕ → ℕ
size m v c x = len m v x (pos m v c x)

pub record Bits (m R : ℕ) (v : Views) : Type 0 where
  pub occupied : (x : ℕ) → x < m → v.occupied x ≤ 1
  pub remainder : (s : ℕ) → s < m → v.remainder s < R

pub record Reads (m : ℕ) (v : Views) (c : ℕ) : Type 0 where
  pub closes : pos m v c m ≡ c + m
  pub fewer : total (size m v c) m < m
  pub found : (x : ℕ) → x < m → 0 < size m v c x → v.runend ((pos m v c x + (size m v c x - 1)) % m) ≡ 1
  pub rising : (x : ℕ) → x < m → (j : ℕ) → suc j < size m v c x → v.remainder ((pos m v c x + j) % m) ≤ v.remainder ((pos m v c x + suc j) % m)
  pub free_remainder : (x : ℕ) → x < m → pos m v c x + size m v c x ≡ x → v.remainder x ≡ 0
  pub free_runend : (x : ℕ) → x < m → pos m v c x + size m v c x ≡ x → v.runend x ≡ 0
  pub offset : (b : ℕ) → 64 * b < m → v.offset b ≡ min (pos m v c (64 * b) - 64 * b) 255

pub gap_le : (E : ℕ → ℕ) (k p : ℕ) → gap E k p ≤ k
unfolding gap
gap_le E zero p = omega arith
gap_le E (suc k) p = choose_by (λ z. z ≤ suc k) (dec_le 1 (E p)) (λ _. omega arith) (λ _. omega (arith, gap_le E k (suc p)))

pub len_some : (m : ℕ) (v : Views) (x p : ℕ) → 0 < v.occupied x → len m v x p ≡ suc (gap (λ t. v.runend (t % m)) m p)
unfolding len
len_some m v x p o = choose_yes (dec_le 1 (v.occupied x)) _ _ o

pub len_none : (m : ℕ) (v : Views) (x p : ℕ) → v.occupied x ≡ 0 → len m v x p ≡ 0
unfolding len
len_none m v x p o = choose_no (dec_le 1 (v.occupied x)) _ _ (λ h. omega arith)

pub pos_zero : (m : ℕ) (v : Views) (c : ℕ) → pos m v c 0 ≡ c
unfolding pos
pos_zero m v c = refl

pub pos_suc : (m : ℕ) (v : Views) (c x : ℕ) → pos m v c (suc x) ≡ max (suc x) (pos m v c x + len m v x (pos m v c x))
unfolding pos
pos_suc m v c x = refl

pub gap_before : (E : ℕ → ℕ) (k p j : ℕ) → j < gap E k p → E (p + j) ≡ 0
unfolding gap choose
gap_before E zero p j l = absurd (omega arith)
gap_before E (suc k) p j l = go (dec_le 1 (E p)) j l (λ i. gap_before E k (suc p) i)
  where
    go : (d : Dec (1 ≤ E p)) (j : ℕ) → j < choose d 0 (suc (gap E k (suc p))) → ((i : ℕ) → i < gap E k (suc p) → E (suc p + i) ≡ 0) → E (p + j) ≡ 0
    go (yes h) j l ih = absurd (omega arith)
    go (no h) zero l ih = rw (add-zero p) (omega arith)
    go (no h) (suc j) l ih = ap E (omega arith) ∙ ih j (omega arith)

cut_length : (f : ℕ → ℕ) (p k : ℕ) → length (cut f p k) ≡ k
unfolding cut
cut_length f p zero = refl
cut_length f p (suc k) = ap suc (cut_length f (suc p) k)

cut_at : (f : ℕ → ℕ) (p k j : ℕ) → j < k → get_or (cut f p k) j 0 ≡ f (p + j)
unfolding cut
cut_at f p zero j l = absurd (omega arith)
cut_at f p (suc k) zero l = ap f (sym (add-zero p))
cut_at f p (suc k) (suc j) l = cut_at f (suc p) k j (omega arith) ∙ ap f (omega arith)

cut_under : (R : ℕ) (f : ℕ → ℕ) → ((t : ℕ) → f t < R) → (p k : ℕ) → Under R (cut f p k)
unfolding cut Under
cut_under R f h p zero = tt
cut_under R f h p (suc k) = (h p, cut_under R f h (suc p) k)

cut_least : (f : ℕ → ℕ) (a p k : ℕ) → ((j : ℕ) → j < k → a ≤ f (p + j)) → Least a (cut f p k)
unfolding cut Least
cut_least f a p zero h = tt
cut_least f a p (suc k) h = (rw (add-zero p) at (h 0 (omega arith)), cut_least f a (suc p) k (λ j l. on j l))
  where
    on : (j : ℕ) → j < k → a ≤ f (suc p + j)
    on j l =
        let e : suc p + j ≡ p + suc j = omega arith in
        rw e (h (suc j) (omega arith))

rising_all : (f : ℕ → ℕ) (p k : ℕ) → ((j : ℕ) → suc j < k → f (p + j) ≤ f (p + suc j)) → (j : ℕ) → j < k → f p ≤ f (p + j)
rising_all f p k h zero l = rw (add-zero p) (omega arith)
rising_all f p k h (suc j) l = le_trans (rising_all f p k h j (omega arith)) (h j l)

cut_ascending : (f : ℕ → ℕ) (p k : ℕ) → ((j : ℕ) → suc j < k → f (p + j) ≤ f (p + suc j)) → Ascending (cut f p k)
unfolding cut Ascending
cut_ascending f p zero h = tt
cut_ascending f p (suc k) h = (cut_least f (f p) (suc p) k (λ j l. on j l), cut_ascending f (suc p) k (λ j l. up j l))
  where
    on : (j : ℕ) → j < k → f p ≤ f (suc p + j)
    on j l =
        let e : suc p + j ≡ p + suc j = omega arith in
        rw e (rising_all f p (suc k) h (suc j) (omega arith))

    up : (j : ℕ) → suc j < k → f (suc p + j) ≤ f (suc p + suc j)
    up j l =
        let e : suc p + j ≡ p + suc j = omega arith in
        let e' : suc p + suc j ≡ p + suc (suc j) = omega arith in
        rw (e, e') (h (suc j) (omega arith))

-- a buffer whose reading passes is an image, of the fingerprints read
module _ (m R : ℕ) (v : Views) (c : ℕ) (bits : Bits m R v) (g : Reads m v c) where
  pub read : ℕ → List ℕ
  read x = cut (λ t. v.remainder (t % m)) (pos m v c x) (size m v c x)

  pub read_length : (x : ℕ) → length (read x) ≡ size m v c x
  unfolding read
  read_length x = cut_length (λ t. v.remainder (t % m)) (pos m v c x) (size m v c x)

  occ_size : (x : ℕ) → x < m → v.occupied x ≡ min 1 (size m v c x)
  unfolding len
  occ_size x b = go (dec_le 1 (v.occupied x)) (bits.occupied x b)
    where
      go : (d : Dec (1 ≤ v.occupied x)) → v.occupied x ≤ 1 → v.occupied x ≡ min 1 (choose d (suc (gap (λ t. v.runend (t % m)) m (pos m v c x))) 0)
      go d l = choose_by (λ z. v.occupied x ≡ min 1 z) d (λ h. omega arith) (λ h. omega arith)

  -- no runend before the last slot read
  no_runend : (x j : ℕ) → suc j < size m v c x → v.runend ((pos m v c x + j) % m) ≡ 0
  unfolding len
  no_runend x j = go (dec_le 1 (v.occupied x))
    where
      go : (d : Dec (1 ≤ v.occupied x)) → suc j < choose d (suc (gap (λ t. v.runend (t % m)) m (pos m v c x))) 0 → v.runend ((pos m v c x + j) % m) ≡ 0
      go d = choose_by (λ z. suc j < z → v.runend ((pos m v c x + j) % m) ≡ 0) d (λ h l. gap_before (λ t. v.runend (t % m)) m (pos m v c x) j (omega arith)) (λ h l. absurd (omega arith))

  pub reads_decoded : Decoded m R v read (pos m v c)
  unfolding pos read
  reads_decoded = record {
    next = λ x b. ap (λ z. max (suc x) (pos m v c x + z)) (sym (read_length x));
    closes = g.closes;
    fewer = omega (arith, g.fewer, total_same (λ x. length (read x)) (size m v c) m (λ x b. read_length x));
    ascending = λ x b. cut_ascending (λ t. v.remainder (t % m)) (pos m v c x) (size m v c x) (g.rising x b);
    under = λ x b. cut_under R (λ t. v.remainder (t % m)) (λ t. bits.remainder (t % m) (mod-lt t (omega arith))) (pos m v c x) (size m v c x);
    occupied = λ x b. occ_size x b ∙ ap (min 1) (sym (read_length x));
    remainder = λ x b j l. sym (cut_at (λ t. v.remainder (t % m)) (pos m v c x) (size m v c x) j (omega (arith, read_length x)));
    inner = λ x b j l. no_runend x j (omega (arith, read_length x));
    final = λ x b j e. ap (λ z. v.runend ((pos m v c x + z) % m)) (omega (arith, read_length x)) ∙ g.found x b (omega (arith, read_length x));
    free_remainder = λ x b e. g.free_remainder x b (omega (arith, read_length x));
    free_runend = λ x b e. g.free_runend x b (omega (arith, read_length x));
    offset = g.offset;
  }

  pub reads_image : 0 < R → Holding m R (flat R read m) × Image m R (flat R read m) v
  reads_image p = (decoded_holding m R p v read (pos m v c) reads_decoded, decoded_image m R p v read (pos m v c) reads_decoded)
