-- `check_list::text::put_decimal`: there is room for the last digit, which is written behind the others. Assumes nothing.
use Rattle.std.proofs.Common.{ℕ, ◌≡◌, ◌<◌, ◌/◌, [], ◌∷◌, ◌++◌, length, sym, ap, ◌∙◌, arith}
use Rattle.theory.specs.Text.{digit, decimal}
use Rattle.theory.specs.program.Numerals.{decimal_small, decimal_more, longer_digits}
use Rattle.check_list.proofs.Filled.{written_none, written_as, written_byte, written_length}
use Rattle.check_list.proofs.text.+put_decimal.Goals as goal

pub bounds-out-0 : goal.bounds-out-0
bounds-out-0 t c = omega (arith, c.requires, ap length (decimal_small c.args.n c.if-n-lt10.true))

pub returns-then-n-lt10 : goal.returns-then-n-lt10
returns-then-n-lt10 t c =
    let e : digit c.args.n ∷ [] ≡ decimal c.args.n = sym (decimal_small c.args.n c.if-n-lt10.true) in
    let h : 0 < length c.args.out.now = omega (arith, c.requires, ap length e) in
    written_as _ _ _ _ (written_byte [] _ _ 0 (written_none c.args.out.now) c.digit.result h) _ (ap (λ (x : ℕ). x ∷ []) c.digit.ensures ∙ e)

pub put_decimal-at-requires : goal.put_decimal-at-requires
put_decimal-at-requires t c =
    (omega (arith, c.decreases), omega (arith, c.requires, longer_digits c.args.n c.if-n-lt10.false))

pub bounds-out-at : goal.bounds-out-at
bounds-out-at t c =
    let room : c.put_decimal-at.result < length c.args.out.now = omega (arith, c.requires, c.put_decimal-at.ensures.many, longer_digits c.args.n c.if-n-lt10.false) in
    omega (arith, room, written_length _ _ _ _ c.put_decimal-at.ensures (omega (arith, room)))

pub returns : goal.returns
returns t c =
    let n = c.args.n in
    let room : c.put_decimal-at.result < length c.args.out.now = omega (arith, c.requires, c.put_decimal-at.ensures.many, longer_digits n c.if-n-lt10.false) in
    let e : decimal (n / 10) ++ (c.digit-2.result ∷ []) ≡ decimal n = rw c.digit-2.ensures (sym (decimal_more n c.if-n-lt10.false)) in
    written_as _ _ _ _ (written_byte _ _ _ _ c.put_decimal-at.ensures c.digit-2.result room) (decimal n) e
