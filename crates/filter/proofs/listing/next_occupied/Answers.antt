-- `filter::listing::next_occupied`: a word a turn. The invariant: no quotient from `from` on is occupied below digit `skip` of block b. Assumes nothing.
use Prim.Native.Nat.{◌+◌, ◌*◌}
use mathlib.Core.Path.{◌≡◌, sym, ◌∙◌}
use native.Mathlib.Omega.{arith}
use Rattle.theory.specs.images.Block.{word_bit}
use Rattle.theory.specs.images.Sizes.{slots_blocks}
use Rattle.filter.specs.Occupied.{vacant_word}
use Rattle.filter.proofs.listing.next_occupied.Goals as goal

pub returns-in-Some : goal.returns-in-Some
returns-in-Some c =
    let h = rw c.occupieds.ensures at c.in-Some.ensures in
    let i = c.loop-b.invariant in
    (omega arith, omega (arith, slots_blocks _ c.args.lent.now.whole.widths.low), sym (word_bit _ 1 _ c.loop-b.b _ h.1) ∙ h.2, vacant_word _ _ _ c.loop-b.b c.loop-b.skip _ (omega arith) i.2 h.3)

pub loop-b-preserved : goal.loop-b-preserved
loop-b-preserved c =
    let e : 64 * (c.loop-b.b + 1) + 0 ≡ 64 * c.loop-b.b + 64 = omega arith in
    (omega arith, omega arith, rw e (vacant_word _ _ _ c.loop-b.b c.loop-b.skip 64 (omega arith) c.loop-b.invariant.2 (rw c.occupieds.ensures at c.in_default.ensures)))
