-- A run as a scan meets it: its remainders from a slot on, round the end, and a runend at its last. Assumes nothing.
use Rattle.std.specs.Prelude.{ℕ, suc, ◌+◌, ◌%◌, ◌<◌, ◌≡◌, List, length, get_or}
use Rattle.std.proofs.Common.{ap, ◌∙◌, arith}
use Rattle.std.proofs.Math.Nat.{mod-add-mod}
use Rattle.theory.specs.tools.Total.{total_one}
use Rattle.theory.specs.Holding.{Holding, run}
use Rattle.theory.specs.list.Runs.{runs_total}
use Rattle.theory.specs.Image.{Views, many, start}
use Rattle.theory.specs.reading.RunendRank.{last_inner, last_end}
use Rattle.theory.specs.images.ByViews.{rest_at_lem, many_at, Image}

pub record RunAt (E C : ℕ → ℕ) (at : ℕ) (l : List ℕ) : Type 0 where
  pub some : 0 < length l
  pub cells : (j : ℕ) → j < length l → C (at + j) ≡ get_or l j 0
  pub inner : (j : ℕ) → suc j < length l → E (at + j) ≡ 0
  pub final : (j : ℕ) → suc j ≡ length l → E (at + j) ≡ 1

-- the run of an occupied quotient of an image
module _ (m R : ℕ) (l : List ℕ) (v : Views) (pos : 0 < R) (h : Holding m R l) (i : Image m R l v) (x : ℕ) (b : x < m) (p : 0 < length (run R l x)) where
  size : many m R l x ≡ length (run R l x)
  size = many_at m R l x b

  -- a slot told modulo m
  round : (f : ℕ → ℕ) (j : ℕ) → f ((start m (many m R l) x % m + j) % m) ≡ f ((start m (many m R l) x + j) % m)
  round f j = ap f (mod-add-mod (start m (many m R l) x) m j)

  pub image_run : RunAt (λ t. v.runend (t % m)) (λ t. v.remainder (t % m)) (start m (many m R l) x % m) (run R l x)
  image_run = record {
    some = p;
    cells = λ j k. round v.remainder j ∙ i.remainders.used x j (omega (arith, size)) ∙ rest_at_lem m R l x j b;
    inner = λ j k. round v.runend j ∙ i.runends.used x j (omega (arith, size)) ∙ last_inner (many m R l) x j (omega (arith, size));
    final = λ j k. round v.runend j ∙ i.runends.used x j (omega (arith, size)) ∙ last_end (many m R l) x j (omega (arith, size));
  }

-- a run is shorter than a round
pub run_few : (m R : ℕ) (l : List ℕ) → 0 < R → Holding m R l → (x : ℕ) → x < m → length (run R l x) < m
run_few m R l pos h x b = omega (arith, total_one (λ y. length (run R l y)) x m b, runs_total R pos l m h.ascending h.under, h.fewer)
