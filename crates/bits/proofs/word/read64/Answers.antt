use Rattle.std.proofs.Common.{◌≡◌, ◌+◌, ◌-◌, ◌∙◌, sym, ap, rules, arith}
use Rattle.std.proofs.lemmas.Grind.{common_steps}
use Rattle.std.proofs.lemmas.Nat.{le_bytes_8}
use Rattle.theory.specs.number.Bytes.{Bytes, le, le_part}
use Rattle.theory.specs.number.WordLaws.{le_word}
use Rattle.bits.proofs.word.read64.Goals as goal

pub returns : goal.returns
returns c =
    let a = c.args in
    let e : a.o + 8 - a.o ≡ 8 = omega arith in
    let bytes = (rw c.unwrap.ensures at c.try_into.ensures.1).same in
    let small : Bytes c.unwrap.result = λ i. rw bytes (grind (arith, common_steps, c.type_inv.s)) in
    sym (le_word _ c.from_le_bytes.type_inv) ∙ ap le (le_bytes_8 _ _ (search rules) small c.from_le_bytes.ensures ∙ bytes) ∙ rw e (le_part 8 a.o a.s.now)
