-- What is due, number by number: the laws that a chain of questions goes by. Assumes nothing.
use Rattle.std.specs.Prelude.{ℕ, zero, suc, ◌+◌, ◌-◌, ◌≤◌, ◌<◌, ◌≡◌, refl, ◌⊎◌, ◌≢◌}
use Rattle.std.proofs.Common.{sym, ◌∙◌, inl, inr, arith}
use Rattle.std.proofs.Math.Decide.{dec_le, dec_lt, ℕ_discrete}
use Rattle.theory.specs.tools.Choose.{choose, choose_no, choose_by, choose_yes}
use Rattle.theory.specs.Shape.{Widths, bytes, slots, capacity}
use Rattle.theory.specs.images.Sizes.{capacity_lt}
use Rattle.theory.specs.Refusal.{or_else, max_due, full_due, size_due, widths_due, len_due, due, due_of}

pub else_none : (a b : ℕ) → a ≡ 0 → or_else a b ≡ b
unfolding or_else
else_none zero b e = refl
else_none (suc a) b e = absurd (omega arith)

pub else_some : (a b : ℕ) → 0 < a → or_else a b ≡ a
unfolding or_else
else_some zero b h = absurd (omega arith)
else_some (suc a) b h = refl

pub widths_none : (q r : ℕ) → Widths q r → widths_due q r ≡ 0
unfolding widths_due
widths_none q r w =
    choose_no (dec_lt q 6) _ _ (λ h. omega (arith, w.low)) ∙ choose_no (dec_lt 59 q) _ _ (λ h. omega (arith, w.high))
    ∙ choose_no (dec_lt r 1) _ _ (λ h. omega (arith, w.some)) ∙ choose_no (dec_lt 64 (q + r)) _ _ (λ h. omega (arith, w.sum))

pub widths_due_lem : (q r : ℕ) → ¬ (Widths q r) → widths_due q r ≡ 1
unfolding widths_due
widths_due_lem q r w =
    choose_by (λ z. z ≡ 1) (dec_lt q 6) (λ _. refl) (λ a. choose_by (λ z. z ≡ 1) (dec_lt 59 q) (λ _. refl)
    (λ b. choose_by (λ z. z ≡ 1) (dec_lt r 1) (λ _. refl) (λ c. choose_by (λ z. z ≡ 1) (dec_lt 64 (q + r)) (λ _. refl)
    (λ d. absurd (w (record { low = omega arith; high = omega arith; some = omega arith; sum = omega arith }))))))

widths_dec : (q r : ℕ) → Widths q r ⊎ (¬ (Widths q r))
widths_dec q r = go (dec_lt q 6) (dec_lt 59 q) (dec_lt r 1) (dec_lt 64 (q + r))
  where
    go : Dec (q < 6) → Dec (59 < q) → Dec (r < 1) → Dec (64 < q + r) → Widths q r ⊎ (¬ (Widths q r))
    go (yes a) b c d = inr (λ w. omega (arith, w.low))
    go (no a) (yes b) c d = inr (λ w. omega (arith, w.high))
    go (no a) (no b) (yes c) d = inr (λ w. omega (arith, w.some))
    go (no a) (no b) (no c) (yes d) = inr (λ w. omega (arith, w.sum))
    go (no a) (no b) (no c) (no d) = inl (record { low = omega arith; high = omega arith; some = omega arith; sum = omega arith })

pub none_widths : (q r : ℕ) → widths_due q r ≡ 0 → Widths q r
none_widths q r e = go (widths_dec q r)
  where
    go : Widths q r ⊎ (¬ (Widths q r)) → Widths q r
    go (inl w) = w
    go (inr w) = absurd (omega (arith, widths_due_lem q r w))

pub size_none : (q r size : ℕ) → size ≡ bytes q r → size_due q r size ≡ 0
unfolding size_due
size_none q r size e = choose_yes (ℕ_discrete size (bytes q r)) 0 2 e

pub size_due_lem : (q r size : ℕ) → size ≢ bytes q r → size_due q r size ≡ 2
unfolding size_due
size_due_lem q r size e = choose_no (ℕ_discrete size (bytes q r)) 0 2 e

pub none_size : (q r size : ℕ) → size_due q r size ≡ 0 → size ≡ bytes q r
none_size q r size e = go (ℕ_discrete size (bytes q r))
  where
    go : Dec (size ≡ bytes q r) → size ≡ bytes q r
    go (yes h) = h
    go (no h) = absurd (omega (arith, size_due_lem q r size h))

pub len_none : (q len : ℕ) → len ≤ slots q → len_due q len ≡ 0
unfolding len_due
len_none q len h = choose_no (dec_lt (slots q) len) 3 0 (λ l. omega arith)

pub len_due_lem : (q len : ℕ) → slots q < len → len_due q len ≡ 3
unfolding len_due
len_due_lem q len h = choose_yes (dec_lt (slots q) len) 3 0 h

pub full_none : (q len : ℕ) → len ≤ capacity q → full_due q len ≡ 0
unfolding full_due
full_none q len h = choose_no (dec_lt (capacity q) len) _ 0 (λ l. omega arith)

pub full_due_lem : (q len : ℕ) → capacity q < len → len ≤ slots q → full_due q len ≡ 5
unfolding full_due
full_due_lem q len h b = choose_yes (dec_lt (capacity q) len) _ 0 h ∙ choose_yes (dec_le len (slots q)) 5 0 b

-- what it means that none of 1 to 5 is due: len is at most capacity, and so a slot is empty
pub record Clear (q r len mx size : ℕ) : Type 0 where
  pub widths : Widths q r
  pub size_is : size ≡ bytes q r
  pub room : len ≤ capacity q
  pub fewer : len < slots q
  pub max_none : max_due q r mx ≡ 0

-- that a slot is empty follows from the rest
pub clear : {q r len mx size : ℕ} → Widths q r → size ≡ bytes q r → len ≤ capacity q → max_due q r mx ≡ 0 → Clear q r len mx size
clear {q} w s h m = record { widths = w; size_is = s; room = h; fewer = omega (arith, capacity_lt q w.low); max_none = m }

pub else_first : (a b : ℕ) → or_else a b ≡ 0 → a ≡ 0
else_first a b e = go (ℕ_discrete a 0)
  where
    go : Dec (a ≡ 0) → a ≡ 0
    go (yes z) = z
    go (no z) = absurd (z (sym (else_some a b (omega arith)) ∙ e))

pub else_second : (a b : ℕ) → or_else a b ≡ 0 → b ≡ 0
else_second a b e = sym (else_none a b (else_first a b e)) ∙ e

pub none_due : (q r len mx size : ℕ) → due q r len mx size ≡ 0 → Clear q r len mx size
unfolding due due_of
none_due q r len mx size e =
    let e₂ = else_second (widths_due q r) _ e in
    let e₃ = else_second (size_due q r size) _ e₂ in
    let e₄ = else_second (len_due q len) _ e₃ in
    clear (none_widths q r (else_first (widths_due q r) _ e)) (none_size q r size (else_first (size_due q r size) _ e₂))
    (fits (dec_lt (slots q) len) (dec_lt (capacity q) len) (else_first (len_due q len) _ e₃) (else_second (max_due q r mx) _ e₄)) (else_first (max_due q r mx) _ e₄)
  where
    fits : Dec (slots q < len) → Dec (capacity q < len) → len_due q len ≡ 0 → full_due q len ≡ 0 → len ≤ capacity q
    fits (yes a) b x y = absurd (omega (arith, len_due_lem q len a))
    fits (no a) (yes b) x y = absurd (omega (arith, full_due_lem q len b (omega arith)))
    fits (no a) (no b) x y = omega arith

pub clear_none : (q r len mx size : ℕ) → Clear q r len mx size → due q r len mx size ≡ 0
unfolding due due_of
clear_none q r len mx size c =
    else_none (widths_due q r) _ (widths_none q r c.widths) ∙ else_none (size_due q r size) _ (size_none q r size c.size_is)
    ∙ else_none (len_due q len) _ (len_none q len (omega (arith, c.fewer))) ∙ else_none (max_due q r mx) _ c.max_none
    ∙ full_none q len c.room

pub max_absent : (q r mx : ℕ) → mx ≡ 0 → max_due q r mx ≡ 0
unfolding max_due
max_absent q r mx e = choose_yes (ℕ_discrete mx 0) _ _ e

pub max_good : (q r mx : ℕ) → q ≤ mx → mx ≤ 59 → mx ≤ q + r - 1 → max_due q r mx ≡ 0
unfolding max_due
max_good q r mx a b d =
    choose_by (λ z. z ≡ 0) (ℕ_discrete mx 0) (λ _. refl)
    (λ _. choose_no (dec_lt mx q) _ _ (λ h. omega arith) ∙ choose_no (dec_lt 59 mx) _ _ (λ h. omega arith) ∙ choose_no (dec_lt (q + r - 1) mx) _ _ (λ h. omega arith))

pub max_bad : (q r mx : ℕ) → mx ≢ 0 → ¬ ((q ≤ mx) × (mx ≤ 59) × (mx ≤ q + r - 1)) → max_due q r mx ≡ 4
unfolding max_due
max_bad q r mx e h =
    choose_no (ℕ_discrete mx 0) _ _ e ∙ choose_by (λ z. z ≡ 4) (dec_lt mx q) (λ _. refl)
    (λ a. choose_by (λ z. z ≡ 4) (dec_lt 59 mx) (λ _. refl) (λ b. choose_by (λ z. z ≡ 4) (dec_lt (q + r - 1) mx) (λ _. refl) (λ d. absurd (h (omega arith)))))

-- number 2, 3, 4, 5 or none, where all lower ones are not due
pub due_size : (q r len mx size : ℕ) → size ≢ bytes q r → due_of q r len mx size ≡ 2
unfolding due_of
due_size q r len mx size h =
    let e = size_due_lem q r size h in
    else_some (size_due q r size) _ (omega arith) ∙ e

pub due_len : (q r len mx size : ℕ) → size ≡ bytes q r → slots q < len → due_of q r len mx size ≡ 3
unfolding due_of
due_len q r len mx size a h =
    let e = len_due_lem q len h in
    else_none (size_due q r size) _ (size_none q r size a) ∙ else_some (len_due q len) _ (omega arith) ∙ e

pub due_max : (q r len mx size : ℕ) → size ≡ bytes q r → len ≤ slots q → 0 < max_due q r mx → due_of q r len mx size ≡ max_due q r mx
unfolding due_of
due_max q r len mx size a b h =
    else_none (size_due q r size) _ (size_none q r size a) ∙ else_none (len_due q len) _ (len_none q len b) ∙ else_some (max_due q r mx) _ h

pub due_full : (q r len mx size : ℕ) → size ≡ bytes q r → len ≤ slots q → max_due q r mx ≡ 0 → due_of q r len mx size ≡ full_due q len
unfolding due_of
due_full q r len mx size a b h =
    else_none (size_due q r size) _ (size_none q r size a) ∙ else_none (len_due q len) _ (len_none q len b) ∙ else_none (max_due q r mx) _ h

pub max_four : (q r mx : ℕ) → 0 < max_due q r mx → max_due q r mx ≡ 4
unfolding max_due
max_four q r mx =
    choose_by (λ z. 0 < z → z ≡ 4) (ℕ_discrete mx 0) (λ _ h. omega arith)
    (λ _. choose_by (λ z. 0 < z → z ≡ 4) (dec_lt mx q) (λ _ _. refl)
    (λ _. choose_by (λ z. 0 < z → z ≡ 4) (dec_lt 59 mx) (λ _ _. refl) (λ _. choose_by (λ z. 0 < z → z ≡ 4) (dec_lt (q + r - 1) mx) (λ _ _. refl) (λ _ h. omega arith))))

pub due_one : (q r len mx size : ℕ) → ¬ (Widths q r) → due q r len mx size ≡ 1
unfolding due
due_one q r len mx size h =
    let e = widths_due_lem q r h in
    else_some (widths_due q r) _ (omega arith) ∙ e

pub due_rest : (q r len mx size : ℕ) → Widths q r → due q r len mx size ≡ due_of q r len mx size
unfolding due
due_rest q r len mx size w = else_none (widths_due q r) _ (widths_none q r w)

-- a max_qbits that was let pass
pub max_fits : (q r mx : ℕ) → max_due q r mx ≡ 0 → mx ≢ 0 → (q ≤ mx) × (mx ≤ 59) × (mx ≤ q + r - 1)
max_fits q r mx e n = go (dec_le q mx) (dec_le mx 59) (dec_le mx (q + r - 1))
  where
    go : Dec (q ≤ mx) → Dec (mx ≤ 59) → Dec (mx ≤ q + r - 1) → (q ≤ mx) × (mx ≤ 59) × (mx ≤ q + r - 1)
    go (yes a) (yes b) (yes c) = (a, b, c)
    go (no a) b c = absurd (omega (arith, max_bad q r mx n (λ z. a z.0)))
    go (yes a) (no b) c = absurd (omega (arith, max_bad q r mx n (λ z. b z.1)))
    go (yes a) (yes b) (no c) = absurd (omega (arith, max_bad q r mx n (λ z. c z.2)))

-- of two questions of which neither gives a number above a bound, none is given above it; so none of these is above 5
pub else_most : (most a b : ℕ) → a ≤ most → b ≤ most → or_else a b ≤ most
unfolding or_else
else_most most zero b x y = y
else_most most (suc a) b x y = x

pub one_most : {A : Type 0} (most : ℕ) (d : Dec A) (a b : ℕ) → a ≤ most → b ≤ most → choose d a b ≤ most
one_most most d a b x y = choose_by (λ z. z ≤ most) d (λ _. x) (λ _. y)

pub due_most : (q r len mx size : ℕ) → due q r len mx size ≤ 5
unfolding due due_of widths_due size_due len_due max_due full_due
due_most q r len mx size =
    else_most 5 (widths_due q r) _
    (one_most 5 (dec_lt q 6) 1 _ (omega arith) (one_most 5 (dec_lt 59 q) 1 _ (omega arith) (one_most 5 (dec_lt r 1) 1 _ (omega arith) (one_most 5 (dec_lt 64 (q + r)) 1 0 (omega arith) (omega arith)))))
    (else_most 5 (size_due q r size) _ (one_most 5 (ℕ_discrete size (bytes q r)) 0 2 (omega arith) (omega arith))
    (else_most 5 (len_due q len) _ (one_most 5 (dec_lt (slots q) len) 3 0 (omega arith) (omega arith))
    (else_most 5 (max_due q r mx) _
    (one_most 5 (ℕ_discrete mx 0) 0 _ (omega arith) (one_most 5 (dec_lt mx q) 4 _ (omega arith) (one_most 5 (dec_lt 59 mx) 4 _ (omega arith) (one_most 5 (dec_lt (q + r - 1) mx) 4 0 (omega arith) (omega arith)))))
    (one_most 5 (dec_lt (capacity q) len) _ 0 (one_most 5 (dec_le len (slots q)) 5 0 (omega arith) (omega arith)) (omega arith)))))
