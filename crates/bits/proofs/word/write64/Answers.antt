use Rattle.std.proofs.Common.{◌≡◌, ◌+◌, ◌-◌, ◌∙◌, ap, arith}
use Rattle.std.specs.Int.{w64, to_le_bytes}
use Rattle.theory.specs.number.Bytes.{le_put_mid}
use Rattle.theory.specs.number.Field.{put}
use Rattle.theory.specs.number.WordLaws.{le_word}
use Rattle.bits.proofs.word.write64.Goals as goal

pub returns : goal.returns
returns c =
    let a = c.args in
    let bytes : c.copy_from_slice.new.self ≡ to_le_bytes w64 a.x = cc in
    let e : a.o + 8 - a.o ≡ 8 = omega arith in
    rw (bytes, e) (le_put_mid a.s.now a.o (to_le_bytes w64 a.x) (omega arith) ∙ ap (put _ _ 64) (le_word a.x c.ranges.x.fits))
