-- Which floats and which bit patterns are numbers. Assumes nothing.
use Rattle.std.specs.Prelude.{ℕ, ◌%◌, ◌/◌, ◌≤◌, ◌≡◌, Bool, true, false, not, ◌&&◌, T, eqb, Float}
use Rattle.std.proofs.Common.{sym, subst, arith, eqb→eq}
use Rattle.std.proofs.Math.Dec.{eqb_refl}
use Rattle.std.specs.Float.{nan, inf, fin, binary64}
use Rattle.std.specs.Float.Ieee.{eq, is_nan, nan_bits}

-- what equals itself is a number
pub equals_itself : (x : Float) → T (eq x x) → T (not (is_nan x))
unfolding eq is_nan
equals_itself nan h = h
equals_itself (inf s) h = tt
equals_itself (fin s m e) h = tt

both : (a b : Bool) → (T a → T b) → T (not (a && not b))
both false b h = tt
both true true h = tt
both true false h = h tt

-- a pattern that is not above infinity's, but for the sign
pub at_most_infinity : (b : ℕ) → b % 0x8000000000000000 ≤ 0x7ff0000000000000 → T (not (nan_bits binary64 b))
unfolding nan_bits
at_most_infinity b h =
    both (eqb (b % 0x8000000000000000 / 0x10000000000000) 2047) (eqb (b % 0x10000000000000) 0) go
  where
    go : T (eqb (b % 0x8000000000000000 / 0x10000000000000) 2047) → T (eqb (b % 0x10000000000000) 0)
    go t =
        let e : b % 0x8000000000000000 / 0x10000000000000 ≡ 2047 = eqb→eq _ _ t in
        let z : b % 0x10000000000000 ≡ 0 = omega arith in
        subst (λ (n : ℕ). T (eqb n 0)) (sym z) (eqb_refl 0)
