-- `check_list::text::put_headline`: the word, the space, the number, the newline, one behind the other. Assumes nothing.
use Rattle.std.proofs.Common.{ℕ, ◌≡◌, ◌+◌, ◌-◌, ◌≤◌, ◌<◌, List, [], ◌∷◌, ◌++◌, length, ap, ◌∙◌, arith}
use mathlib.Core.List.{append_assoc}
use lib.ListN.{set, take, drop, length-set, length-drop}
use borrow.Rule.Slice.PartMut.{put_mid}
use Rattle.theory.specs.Text.{ascii, decimal, headline}
use Rattle.theory.specs.program.Numerals.{headline_length}
use Rattle.check_list.specs.Written.{Written}
use Rattle.check_list.proofs.Filled.{written_as, written_byte, written_more, written_length, rest}
use Rattle.check_list.proofs.text.put_headline.Goals as goal

module _ (word out : List ℕ) (n : ℕ) (fits : length (headline word n) ≤ length out) where
  -- there is room for the word, the number and two bytes more
  room : length word + length (decimal n) + 2 ≤ length out
  room = omega (arith, fits, headline_length word n)

  module _ (first : List ℕ) (k : ℕ) (w : Written word out first k) where
    worded : (k ≡ length word) × (length first ≡ length out)
    worded = (w.many, written_length _ _ _ _ w (omega (arith, room, w.many)))

    -- the word and the space, and then the number
    spaced : Written (word ++ (32 ∷ [])) out (set first k 32) (k + 1)
    spaced = written_byte _ _ _ _ w 32 (omega (arith, room, worded))

    decimal_fits : length (decimal n) ≤ length (take (length (set first k 32) - (k + 1)) (drop (k + 1) (set first k 32)))
    decimal_fits = omega (arith, room, worded, ap length (rest _ _ _ _ spaced), length-drop (k + 1) out)

    module _ (second : List ℕ) (j : ℕ) (v : Written (decimal n) (take (length (set first k 32) - (k + 1)) (drop (k + 1) (set first k 32))) second j) where
      numbered : Written (word ++ (32 ∷ []) ++ decimal n) out (put_mid (k + 1) (length (set first k 32) - (k + 1)) (set first k 32) second) (k + 1 + j)
      numbered = written_more _ _ _ _ spaced _ _ _ v

      ends : k + 1 + j < length out
      ends = omega (arith, room, w.many, v.many)

      last_fits : k + 1 + j < length (put_mid (k + 1) (length (set first k 32) - (k + 1)) (set first k 32) second)
      last_fits = omega (arith, ends, written_length _ _ _ _ numbered (omega (arith, ends)))

      whole : Written (headline word n) out (set (put_mid (k + 1) (length (set first k 32) - (k + 1)) (set first k 32) second) (k + 1 + j) 10) (k + 1 + j + 1)
      unfolding headline ascii
      whole =
          let e = append_assoc (word ++ (32 ∷ [])) (decimal n) (10 ∷ []) ∙ append_assoc word (32 ∷ []) (decimal n ++ (10 ∷ [])) in
          written_as _ _ _ _ (written_byte _ _ _ _ numbered 10 ends) _ e

pub put_bytes-at-requires : goal.put_bytes-at-requires
put_bytes-at-requires c = omega (arith, room c.args.word.now c.args.out.now c.args.n c.requires)

pub bounds-out-at : goal.bounds-out-at
bounds-out-at c =
    let r = room c.args.word.now c.args.out.now c.args.n c.requires in
    let w = worded c.args.word.now c.args.out.now c.args.n c.requires _ _ c.put_bytes-at.ensures in
    omega (arith, r, w)

pub slice_bounds-put_decimal-count : goal.slice_bounds-put_decimal-count
slice_bounds-put_decimal-count c =
    let r = room c.args.word.now c.args.out.now c.args.n c.requires in
    let w = worded c.args.word.now c.args.out.now c.args.n c.requires _ _ c.put_bytes-at.ensures in
    simp length-set (omega (arith, r, w))

pub slice_bounds-put_decimal-start : goal.slice_bounds-put_decimal-start
slice_bounds-put_decimal-start c =
    let r = room c.args.word.now c.args.out.now c.args.n c.requires in
    let w = worded c.args.word.now c.args.out.now c.args.n c.requires _ _ c.put_bytes-at.ensures in
    simp length-set (omega (arith, r, w))

pub put_decimal-at-requires : goal.put_decimal-at-requires
put_decimal-at-requires c = decimal_fits c.args.word.now c.args.out.now c.args.n c.requires _ _ c.put_bytes-at.ensures

pub bounds-out-at-2 : goal.bounds-out-at-2
bounds-out-at-2 c = last_fits c.args.word.now c.args.out.now c.args.n c.requires _ _ c.put_bytes-at.ensures _ _ c.put_decimal-at.ensures

pub returns : goal.returns
returns c = whole c.args.word.now c.args.out.now c.args.n c.requires _ _ c.put_bytes-at.ensures _ _ c.put_decimal-at.ensures
