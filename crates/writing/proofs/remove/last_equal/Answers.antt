-- `writing::remove::last_equal`: the invariant is that k places are passed, and which of them is the last equal one (specs/CopyOut). Assumes nothing.
use Rattle.std.specs.Prelude.{Some, None}
use Rattle.std.proofs.Common.{◌≡◌, ◌≢◌, ◌+◌, ◌⊎◌, inl, inr, sym, ◌∙◌}
use Rattle.writing.specs.CopyOut.{looking_on, seen_end, seen_round}
use Rattle.writing.proofs.remove.last_equal.Goals as goal
use Rattle.writing.proofs.remove.last_equal.Goals.{Joined-get_remainder-rem, then-get_remainder-rem, else-get_remainder-rem}

-- its remainder is equal, or it is passed
by : (c : Joined-get_remainder-rem) → ((c.get_remainder.result ≡ c.args.rem) × (c.if-get_remainder-rem.last ≡ Some c.loop-last.k)) ⊎ ((c.get_remainder.result ≢ c.args.rem) × (c.if-get_remainder-rem.last ≡ c.loop-last.last))
by c = elim c.if-get_remainder-rem.branch [ then-get_remainder-rem w ↦ inl (w.if-get_remainder-rem.true, w.last-is) | else-get_remainder-rem w ↦ inr (w.if-get_remainder-rem.false, w.last-is) ]

pub returns-in_err-last : goal.returns-in_err-last
returns-in_err-last c =
    let g = goal.at.returns-in_err-last c in
    let e = c.slots-slots.ensures.0 in
    let here = rw e at c.get_remainder.ensures.0 in
    let ends = rw e at c.is_runend.ensures.0 in
    rw c.from_residual.ensures (elim c.then-is_runend-eq1.either [
      | inl y ↦ seen_end _ _ _ _ c.loop-last.k _ _ _ c.loop-last.invariant.1 here c.loop-last.invariant.0 (by g.Joined-get_remainder-rem) (sym ends ∙ y) None c.in_err-last.was
      | inr y ↦ seen_round _ _ _ _ (c.loop-last.k + 1) _ (y.1 ∙ e) (looking_on _ _ _ _ c.loop-last.k _ _ _ c.loop-last.invariant.1 here c.loop-last.invariant.0 (by g.Joined-get_remainder-rem) (λ z. y.0 (ends ∙ z))) None c.in_err-last.was
    ])
