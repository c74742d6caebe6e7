-- Texts one after the other at the start of a buffer. Assumes nothing.
use Prim.Native.Nat.{ℕ, suc, ◌+◌, ◌-◌, ◌≤◌, ◌<◌}
use mathlib.Core.Path.{◌≡◌, refl, sym, ap, ◌∙◌}
use mathlib.Core.List.{List, [], ◌∷◌, ◌++◌, append_assoc, append-nil}
use native.Mathlib.Omega.{arith}
use native.Mathlib.Numerals.{add-one}
use lib.ListN.{length, take, drop, set, get_or, length-append, length-drop, drop_of_length-le}
use lib.Seq.{take_all, take_at, drop_at, set_at, drop-cons, drop-drop, append_snoc}
use borrow.Rule.Slice.PartMut.{put_mid}
use Rattle.check_list.specs.Written.{Written}

-- nothing is written yet
pub written_none : (a : List ℕ) → Written [] a a 0
written_none a = record { many = refl; whole = refl }

module _ (t a b : List ℕ) (k : ℕ) (w : Written t a b k) where
  pub written_as : (u : List ℕ) → t ≡ u → Written u a b k
  written_as u e = rw e at w

  pub written_count : (j : ℕ) → k ≡ j → Written t a b j
  written_count j e = rw e at w

  front : take k b ≡ t
  front = rw w.whole (take_at t (drop k a) k (sym w.many))

  behind : drop k b ≡ drop k a
  behind = rw w.whole (drop_at t (drop k a) k (sym w.many))

  pub written_length : k ≤ length a → length b ≡ length a
  written_length h = omega (arith, ap length w.whole, length-append t (drop k a), length-drop k a, w.many)

  -- a byte more
  pub written_byte : (x : ℕ) → k < length a → Written (t ++ (x ∷ [])) a (set b k x) (k + 1)
  written_byte x h = record {
    many = omega (arith, length-append t (x ∷ []), w.many);
    whole = rw (w.whole, drop-cons a k 0 h, set_at t (get_or a k 0) (drop (suc k) a) x k (sym w.many), add-one k) (sym (append_snoc t x (drop (suc k) a)));
  }

  -- a text more, in the part of the buffer that is lent from k on
  pub rest : take (length b - k) (drop k b) ≡ drop k a
  rest = take_all (length b - k) (drop k b) (omega (arith, length-drop k b)) ∙ behind

  none_behind : drop (length b - k) (drop k b) ≡ []
  none_behind = let h : length (drop k b) ≤ length b - k = omega (arith, length-drop k b) in drop_of_length-le (drop k b) h

  pub written_more : (u c : List ℕ) (j : ℕ) → Written u (take (length b - k) (drop k b)) c j → Written (t ++ u) a (put_mid k (length b - k) b c) (k + j)
  written_more u c j v = record {
    many = omega (arith, length-append t u, w.many, v.many);
    whole = rw (front, none_behind, append-nil, v.whole, rest, drop-drop j k a) (sym (append_assoc t u (drop (k + j) a)));
  }
