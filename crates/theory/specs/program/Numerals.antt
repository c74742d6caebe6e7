-- The digits of a number, as the code finds them. Assumes nothing.
use Rattle.std.specs.Prelude.{ℕ, zero, suc, ◌+◌, ◌-◌, ◌*◌, ◌/◌, ◌%◌, ◌^◌, ◌≤◌, ◌<◌, ◌≡◌, refl, List, [], ◌∷◌, ◌++◌, length}
use Rattle.std.proofs.Common.{ap, ◌∙◌, arith, pow-suc, length-append, shr-shr}
use Rattle.std.proofs.Math.Decide.{dec_lt}
use Rattle.theory.specs.tools.Choose.{choose, choose_yes, choose_no}
use Rattle.theory.specs.Text.{ascii, digit, hex, decimal_in, decimal, headline}

pub digit_low : (d : ℕ) → d < 10 → digit d ≡ 48 + d
unfolding digit
digit_low d h = choose_yes (dec_lt d 10) _ _ h

pub digit_high : (d : ℕ) → 10 ≤ d → digit d ≡ 97 + (d - 10)
unfolding digit
digit_high d h = choose_no (dec_lt d 10) _ _ (λ l. omega arith)

-- ---- hex
pub hex_length : (k n : ℕ) → length (hex k n) ≡ k
unfolding hex
hex_length zero n = refl
hex_length (suc k) n = omega (arith, length-append (hex k (n / 16)) (digit (n % 16) ∷ []), hex_length k (n / 16))

-- the digit after the first i of 16
pub hex_next : (f i : ℕ) → i < 16 → hex (suc i) (f / 2 ^ (64 - 4 * suc i)) ≡ hex i (f / 2 ^ (64 - 4 * i)) ++ (digit (f / 2 ^ (60 - 4 * i) % 16) ∷ [])
unfolding hex
hex_next f i h =
    let a : 64 - 4 * suc i ≡ 60 - 4 * i = omega arith in
    let b : (60 - 4 * i) + 4 ≡ 64 - 4 * i = omega arith in
    rw (a, ← b, ← shr-shr f (60 - 4 * i) 4)

-- ---- decimal
choose_same : {A B : Type 0} (d : Dec A) {a b c : B} → a ≡ a → (¬ A → b ≡ c) → choose d a b ≡ choose d a c
unfolding choose
choose_same (yes h) e f = e
choose_same (no h) e f = f h

-- steps that are more than enough change nothing
enough : (j k n : ℕ) → n < j → n < k → decimal_in j n ≡ decimal_in k n
unfolding decimal_in
enough zero k n a b = absurd (omega arith)
enough (suc j) zero n a b = absurd (omega arith)
enough (suc j) (suc k) n a b =
    choose_same (dec_lt n 10) refl (λ h. ap (λ (t : List ℕ). t ++ (digit (n % 10) ∷ [])) (enough j k (n / 10) (omega arith) (omega arith)))

pub decimal_small : (n : ℕ) → n < 10 → decimal n ≡ digit n ∷ []
unfolding decimal decimal_in
decimal_small n h = choose_yes (dec_lt n 10) _ _ h

pub decimal_more : (n : ℕ) → 10 ≤ n → decimal n ≡ decimal (n / 10) ++ (digit (n % 10) ∷ [])
unfolding decimal decimal_in
decimal_more n h =
    choose_no (dec_lt n 10) _ _ (λ l. omega arith) ∙ ap (λ (t : List ℕ). t ++ (digit (n % 10) ∷ [])) (enough n (suc (n / 10)) (n / 10) (omega arith) (omega arith))

pub longer_digits : (n : ℕ) → 10 ≤ n → length (decimal n) ≡ length (decimal (n / 10)) + 1
longer_digits n h = ap length (decimal_more n h) ∙ length-append (decimal (n / 10)) (digit (n % 10) ∷ [])

-- d digits hold a number below 10 ^ d
pub decimal_length : (d n : ℕ) → n < 10 ^ suc d → length (decimal n) ≤ suc d
decimal_length zero n h = omega (arith, ap length (decimal_small n h))
decimal_length (suc d) n h = go (dec_lt n 10) (λ p. decimal_length d (n / 10) p)
  where
    go : Dec (n < 10) → (n / 10 < 10 ^ suc d → length (decimal (n / 10)) ≤ suc d) → length (decimal n) ≤ suc (suc d)
    go (yes l) f = omega (arith, ap length (decimal_small n l))
    go (no l) f =
        let p : n / 10 < 10 ^ suc d = omega (arith, pow-suc 10 (suc d)) in
        omega (arith, longer_digits n (omega arith), f p)

pub headline_length : (word : List ℕ) (n : ℕ) → length (headline word n) ≡ length word + length (decimal n) + 2
unfolding headline ascii
headline_length word n = omega (arith, length-append word (32 ∷ decimal n ++ (10 ∷ [])), length-append (decimal n) (10 ∷ []))

-- the line of a short word and a number of 64 bits fits into 32 bytes
pub headline_short : (word : List ℕ) (n : ℕ) → length word ≤ 7 → n < 2 ^ 64 → length (headline word n) ≤ 32
headline_short word n h b = omega (arith, headline_length word n, decimal_length 19 n (omega arith))
