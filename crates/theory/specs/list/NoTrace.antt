-- What leaves no trace in a holding: one copy more and then one fewer; the order in which copies are added. Assumes nothing.
use Rattle.std.specs.Prelude.{ℕ, ◌+◌, ◌≡◌, List}
use Rattle.std.proofs.Common.{sym, ap, ◌∙◌, arith}
use Rattle.std.proofs.Math.Decide.{ℕ_discrete}
use Rattle.theory.specs.Holding.{Ascending, copies, more, fewer}
use Rattle.theory.specs.Joining.{added}
use Rattle.theory.specs.list.Adding.{copies_added, added_keeps}
use Rattle.theory.specs.list.Copies.{copies_tell, copies_more_here, copies_more_other}
use Rattle.theory.specs.list.Fewer.{fewer_ascending, fewer_copies_here, fewer_copies_other}
use Rattle.theory.specs.list.More.{more_ascending}

pub fewer_more : (f : ℕ) (l : List ℕ) → Ascending l → fewer f (more f l) ≡ l
fewer_more f l a = copies_tell (fewer f (more f l)) l (fewer_ascending f (more f l) (more_ascending f l a)) a (λ x. go x (ℕ_discrete f x))
  where
    go : (x : ℕ) → Dec (f ≡ x) → copies x (fewer f (more f l)) ≡ copies x l
    go x (yes z) = rw (← z) (omega (arith, copies_more_here f l, fewer_copies_here f (more f l) (omega (arith, copies_more_here f l))))
    go x (no z) = fewer_copies_other f x (more f l) z ∙ copies_more_other f x l z

-- two lists in which every fingerprint comes equally often, added to a holding, give one
pub added_order : (l b b' : List ℕ) → Ascending l → ((f : ℕ) → copies f b ≡ copies f b') → added l b ≡ added l b'
added_order l b b' a e =
    copies_tell (added l b) (added l b') (sorted b) (sorted b') (λ f. copies_added f l b ∙ ap (λ z. copies f l + z) (e f) ∙ sym (copies_added f l b'))
  where
    sorted : (c : List ℕ) → Ascending (added l c)
    sorted c = added_keeps Ascending (λ _. Unit {0}) (λ _ _ _. tt) (λ f g _ _ p. more_ascending f g p) l c tt a
