-- The promises of lookup and count (docs/RULES.md, "Lookup and count").
use Rattle.std.specs.Prelude.{Result, Ok, ℕ, ◌/◌, ◌%◌, ◌^◌, ◌≤◌, min, ◌≡◌, List}
use Rattle.std.proofs.Common.{sym, ap, ◌∙◌, arith, pow_pos}
use Rattle.std.proofs.Math.Decide.{dec_le}
use Rattle.theory.specs.tools.Choose.{choose}
use Rattle.theory.specs.Shape.{Widths}
use Rattle.theory.specs.Answer.{gives, Looked}
use Rattle.theory.specs.Holding.{copies, run, seek}
use Rattle.theory.specs.list.Seek.{copies_run}
use Rattle.theory.proofs.check.Decides.{holds_image}
use Rattle.layout.specs.declared.numbers.Numbers.{Numbers}
use Rattle.layout.specs.declared.refusal.Refusal.{Refusal}
use Rattle.layout.specs.Records.{shape_of, HoldsOf, fingerprint_of, Answers, AnswersQuick}
use Rattle.filter.specs.declared.lookup.Lookup.{Lookup}
use Rattle.filter.specs.declared.lookup.Lookup.TheVariants.{Held, Absent}
use Rattle.filter.specs.Says.{lookup_says, counting_says}
use Rattle.filter.specs.Lookup.{Shows, Seeks, Counts}

-- the remainders held with the quotient of f, ascending
abbrev pub run_of : Numbers → ℕ → List ℕ → List ℕ
run_of n f l = run (2 ^ n.rbits) l (f / 2 ^ n.rbits)

-- held is 1 or 0; compared is where in the ascending run the first equal remainder stands, counted from 1, and the run's length if none is equal
abbrev pub lookup_of : Numbers → ℕ → List ℕ → Looked
lookup_of n f l = record { held = min 1 (copies f l); compared = seek (f % 2 ^ n.rbits) (run_of n f l) }

abbrev pub Contains : Numbers → List ℕ → ℕ → Result Lookup Refusal → Type 0
Contains n s hash a = Answers n s (lookup_of n (fingerprint_of n hash)) (lookup_says a)

abbrev pub ContainsQuick : Numbers → List ℕ → ℕ → Result Lookup Refusal → Type 0
ContainsQuick n s hash a = AnswersQuick n s (lookup_of n (fingerprint_of n hash)) (lookup_says a)

-- the count is the exact multiplicity
abbrev pub Count : Numbers → List ℕ → ℕ → Result ℕ Refusal → Type 0
Count n s hash a = Answers n s (copies (fingerprint_of n hash)) (counting_says a)

abbrev pub CountQuick : Numbers → List ℕ → ℕ → Result ℕ Refusal → Type 0
CountQuick n s hash a = AnswersQuick n s (copies (fingerprint_of n hash)) (counting_says a)

-- ---- how the code comes to it
-- a buffer that is the image of l shows l
pub holds_shows : (n : Numbers) (s l : List ℕ) → Widths n.qbits n.rbits → HoldsOf n s l → Shows (shape_of n) s l
holds_shows n s l w h = record { holding = h.holding; image = holds_image n.qbits n.rbits n.len w s l h }

pub looked : (n : Numbers) (s l : List ℕ) (hash : ℕ) (a : Lookup) → Widths n.qbits n.rbits → Seeks (shape_of n) s hash a → HoldsOf n s l
    → lookup_says (Ok a) ≡ gives (lookup_of n (fingerprint_of n hash) l)
unfolding choose
looked n s l hash a w k h =
    ap (λ (z : Lookup). lookup_says (Ok z)) (k l (holds_shows n s l w h)) ∙ go (dec_le 1 (copies rem (run_of n f l)))
    ∙ ap (λ z. gives (record { held = min 1 z; compared = seek rem (run_of n f l) })) (sym (copies_run (2 ^ n.rbits) (pow_pos n.rbits) f l))
  where
    f : ℕ
    f = fingerprint_of n hash

    rem : ℕ
    rem = f % 2 ^ n.rbits

    go : (d : Dec (1 ≤ copies rem (run_of n f l))) → lookup_says (Ok (choose d (Held (seek rem (run_of n f l))) (Absent (seek rem (run_of n f l)))))
        ≡ gives (record { held = min 1 (copies rem (run_of n f l)); compared = seek rem (run_of n f l) })
    go (yes y) = ap (λ z. gives (record { held = z; compared = seek rem (run_of n f l) })) (omega arith)
    go (no y) = ap (λ z. gives (record { held = z; compared = seek rem (run_of n f l) })) (omega arith)

pub counted : (n : Numbers) (s l : List ℕ) (hash a : ℕ) → Widths n.qbits n.rbits → Counts (shape_of n) s hash a → HoldsOf n s l
    → gives a ≡ gives (copies (fingerprint_of n hash) l)
counted n s l hash a w k h = ap gives (k l (holds_shows n s l w h))
