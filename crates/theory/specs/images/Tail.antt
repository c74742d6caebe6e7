-- The last eight bytes, as a field and as bytes. Assumes nothing.
use Rattle.std.specs.Prelude.{ℕ, ◌+◌, ◌-◌, ◌^◌, ◌<◌, ◌≡◌, List, length, drop}
use Rattle.std.proofs.Common.{sym, ◌∙◌, arith, mod-eq_of_lt, length-drop, get_or-drop}
use Rattle.theory.specs.number.Bytes.{le_drop, Bytes, le, le_inj, le_lt}
use Rattle.theory.specs.number.Field.{field}
use Rattle.theory.specs.Shape.{bytes, blocks}
use Rattle.theory.specs.images.Block.{block, tail_at}
use Rattle.theory.specs.Sound.{last_eight}

tail_le : (q r : ℕ) (s : List ℕ) → length s ≡ bytes q r → le (last_eight s) ≡ tail_at r (blocks q) (le s)
unfolding tail_at field bytes
tail_le q r s e =
    let o : length s - 8 ≡ block r (blocks q) = omega arith in
    let n : length (drop (length s - 8) s) ≡ 8 = length-drop (length s - 8) s ∙ omega arith in
    let small : le (drop (length s - 8) s) < 2 ^ 64 = rw n at (le_lt (drop (length s - 8) s)) in
    sym (mod-eq_of_lt small) ∙ rw (le_drop (length s - 8) s, o)

-- equal fields mean equal bytes
pub tail_bytes_lem : (q r : ℕ) (s t : List ℕ) → Bytes s → Bytes t → length s ≡ bytes q r → length t ≡ bytes q r → tail_at r (blocks q) (le t) ≡ tail_at r (blocks q) (le s) → last_eight t ≡ last_eight s
unfolding bytes
tail_bytes_lem q r s t bs bt es et e =
    le_inj (last_eight t) (last_eight s) (λ i. rw (get_or-drop (length t - 8) t i 0) (bt (length t - 8 + i))) (λ i. rw (get_or-drop (length s - 8) s i 0) (bs (length s - 8 + i)))
    (length-drop (length t - 8) t ∙ omega arith ∙ sym (length-drop (length s - 8) s)) (tail_le q r t et ∙ e ∙ sym (tail_le q r s es))
