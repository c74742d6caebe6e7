-- What follows of the promises of lookup and count: filters that hold a fingerprint equally often answer alike, no lookup compares more than n(q) remainders, and one of an
-- absent fingerprint compares them all; a quick call equals the checked one on every sound buffer. Assumes nothing.
use Rattle.std.specs.Prelude.{Result, ℕ, ◌+◌, ◌%◌, ◌/◌, ◌^◌, ◌≤◌, min, ◌≡◌, List, length}
use Rattle.std.proofs.Common.{sym, ap, ◌∙◌, arith, div-lt_iff_lt-mul, pow_pos}
use Rattle.theory.specs.Answer.{gives, values, not_looked}
use Rattle.theory.specs.Shape.{slots, fingerprint}
use Rattle.theory.specs.Holding.{copies}
use Rattle.theory.specs.Image.{many}
use Rattle.theory.specs.list.Seek.{seek_le, seek_absent, copies_run}
use Rattle.theory.specs.images.Sizes.{fingerprint_lt}
use Rattle.theory.specs.images.ByViews.{many_at}
use Rattle.layout.specs.declared.numbers.Numbers.{Numbers}
use Rattle.layout.specs.declared.refusal.Refusal.{Refusal}
use Rattle.layout.specs.Records.{lowest_due, fingerprint_of, HoldsOf}
use Rattle.filter.specs.declared.lookup.Lookup.{Lookup}
use Rattle.filter.specs.Says.{lookup_says, lookup_tells, counting_says, counting_tells}
use Rattle.filter.specs.Asking.{Contains, ContainsQuick, Count, CountQuick, lookup_of, run_of}
use Rattle.layout.specs.Outcomes.{Settled}
use Rattle.filter.specs.Pinned.{quick_checked_answer}

-- whether a lookup says yes, 1, or no, 0, and how many remainders it says that it compared
abbrev pub says_held : Result Lookup Refusal → ℕ
says_held a = (values not_looked (lookup_says a)).held

abbrev pub compared : Result Lookup Refusal → ℕ
compared a = (values not_looked (lookup_says a)).compared

-- ---- equal holding, equal answers: where two sound filters with as many bits of fingerprint have one as often, lookup and count say the same of it
module _ (n n' : Numbers) (s s' l l' : List ℕ) (e : lowest_due n s ≡ 0) (e' : lowest_due n' s' ≡ 0) (h : HoldsOf n s l) (h' : HoldsOf n' s' l')
    (hash : ℕ) (width : n.qbits + n.rbits ≡ n'.qbits + n'.rbits) (often : copies (fingerprint_of n hash) l ≡ copies (fingerprint_of n hash) l') where
  often_too : copies (fingerprint_of n hash) l ≡ copies (fingerprint_of n' hash) l'
  unfolding fingerprint
  often_too = rw (← width) often

  pub contains_alike : (a a' : Result Lookup Refusal) → Contains n s hash a → Contains n' s' hash a' → says_held a ≡ says_held a'
  contains_alike a a' p p' =
      ap (λ z. (values not_looked z).held) (p.sound e l h) ∙ ap (min 1) often_too ∙ sym (ap (λ z. (values not_looked z).held) (p'.sound e' l' h'))

  pub count_alike : (a a' : Result ℕ Refusal) → Count n s hash a → Count n' s' hash a' → a ≡ a'
  count_alike a a' p p' = counting_tells a a' (p.sound e l h ∙ ap gives often_too ∙ sym (p'.sound e' l' h'))

-- ---- the number of remainders compared, q being the quotient: never above n(q), and n(q) if the fingerprint is absent
module _ (n : Numbers) (s l : List ℕ) (e : lowest_due n s ≡ 0) (h : HoldsOf n s l) (hash : ℕ) where
  abbrev f : ℕ
  f = fingerprint_of n hash

  run_is : length (run_of n f l) ≡ many (slots n.qbits) (2 ^ n.rbits) l (f / 2 ^ n.rbits)
  run_is = sym (many_at (slots n.qbits) (2 ^ n.rbits) l (f / 2 ^ n.rbits) ((div-lt_iff_lt-mul (pow_pos n.rbits)).1 (fingerprint_lt n.qbits n.rbits hash)))

  most : (lookup_of n f l).compared ≤ many (slots n.qbits) (2 ^ n.rbits) l (f / 2 ^ n.rbits)
  most = omega (arith, run_is, seek_le (f % 2 ^ n.rbits) (run_of n f l))

  pub compared_most : (a : Result Lookup Refusal) → Contains n s hash a → compared a ≤ many (slots n.qbits) (2 ^ n.rbits) l (fingerprint_of n hash / 2 ^ n.rbits)
  compared_most a p = omega (arith, most, ap (λ z. (values not_looked z).compared) (p.sound e l h))

  pub compared_most_quick : (a : Result Lookup Refusal) → ContainsQuick n s hash a → compared a ≤ many (slots n.qbits) (2 ^ n.rbits) l (fingerprint_of n hash / 2 ^ n.rbits)
  compared_most_quick a p = omega (arith, most, ap (λ z. (values not_looked z).compared) (p.sound e l h))

  pub compared_absent : copies (fingerprint_of n hash) l ≡ 0 → (a : Result Lookup Refusal) → Contains n s hash a → compared a ≡ many (slots n.qbits) (2 ^ n.rbits) l (fingerprint_of n hash / 2 ^ n.rbits)
  compared_absent none a p =
      ap (λ z. (values not_looked z).compared) (p.sound e l h) ∙ seek_absent (f % 2 ^ n.rbits) (run_of n f l) (sym (copies_run (2 ^ n.rbits) (pow_pos n.rbits) f l) ∙ none) ∙ run_is

-- ---- on every sound buffer, and where a number 1 to 5 is due, quick equals checked
module _ (n : Numbers) (hash : ℕ) (s : List ℕ) (d : Settled n s) where
  pub contains_quick_checked : (a b : Result Lookup Refusal) → ContainsQuick n s hash a → Contains n s hash b → a ≡ b
  contains_quick_checked = quick_checked_answer lookup_says lookup_tells (lookup_of n (fingerprint_of n hash)) n s d

  pub count_quick_checked : (a b : Result ℕ Refusal) → CountQuick n s hash a → Count n s hash b → a ≡ b
  count_quick_checked = quick_checked_answer counting_says counting_tells (copies (fingerprint_of n hash)) n s d
