-- k copies of one fingerprint: that they are a holding, and how many have each quotient. Assumes nothing.
use Rattle.std.specs.Prelude.{ℕ, zero, suc, ◌*◌, ◌/◌, ◌%◌, ◌<◌, ◌≡◌, refl, ◌∷◌, length, replicate}
use Rattle.std.proofs.Common.{ap, arith}
use Rattle.std.proofs.Math.Path.{fun_ext}
use Rattle.std.proofs.Math.Decide.{ℕ_discrete}
use Rattle.std.proofs.lemmas.List.{length-replicate}
use Rattle.theory.specs.tools.Choose.{choose, choose_by}
use Rattle.theory.specs.Holding.{Holding, Ascending, Least, Under, run}
use Rattle.theory.specs.Image.{many, run_at}

copies_least : (f k : ℕ) → Least f (replicate k f)
unfolding Least
copies_least f zero = tt
copies_least f (suc k) = (omega arith, copies_least f k)

copies_ascending : (f k : ℕ) → Ascending (replicate k f)
unfolding Ascending
copies_ascending f zero = tt
copies_ascending f (suc k) = (copies_least f k, copies_ascending f k)

copies_under : (b f k : ℕ) → f < b → Under b (replicate k f)
unfolding Under
copies_under b f zero h = tt
copies_under b f (suc k) h = (h, copies_under b f k h)

pub copies_holding : (m R f k : ℕ) → f < m * R → k < m → Holding m R (replicate k f)
copies_holding m R f k h few = record { ascending = copies_ascending f k; under = copies_under (m * R) f k h; fewer = omega (arith, length-replicate k f) }

run_length : (R f x k : ℕ) → length (run R (replicate k f) x) ≡ choose (ℕ_discrete (f / R) x) k 0
unfolding run choose
run_length R f x zero = choose_by (λ z. 0 ≡ z) (ℕ_discrete (f / R) x) (λ _. refl) (λ _. refl)
run_length R f x (suc k) = go (ℕ_discrete (f / R) x) (run_length R f x k)
  where
    go : (d : Dec (f / R ≡ x)) → length (run R (replicate k f) x) ≡ choose d k 0 → length (choose d (f % R ∷ run R (replicate k f) x) (run R (replicate k f) x)) ≡ choose d (suc k) 0
    go (yes h) e = ap suc e
    go (no h) e = e

pub many_copies : (m R f k : ℕ) → many m R (replicate k f) ≡ (λ x. choose (ℕ_discrete (f / R) (x % m)) k 0)
unfolding many run_at
many_copies m R f k = fun_ext (λ x. run_length R f (x % m) k)
