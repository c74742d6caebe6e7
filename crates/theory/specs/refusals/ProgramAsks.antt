-- Numbers 13, 1 and 14, question by question. Assumes nothing.
use Rattle.std.specs.Prelude.{ℕ, ◌≤◌, ◌<◌, ◌≡◌, ◌≢◌, List, length, get_or}
use Rattle.std.proofs.Common.{◌∙◌, arith}
use Rattle.std.proofs.Math.Decide.{dec_lt, ℕ_discrete}
use Rattle.theory.specs.tools.Choose.{choose_yes, choose_no}
use Rattle.theory.specs.Shape.{Widths}
use Rattle.theory.specs.Refusal.{widths_due}
use Rattle.theory.specs.refusals.ByNumber.{else_none, else_some, else_first, else_second, none_widths}
use Rattle.theory.specs.Report.{qbits_of, rbits_of, header_bytes, mark_due, largest_qbits, limit_due, header_due}

-- ---- 13
module _ (s : List ℕ) where
  pub mark_short : length s < header_bytes → mark_due s ≡ 13
  unfolding mark_due
  mark_short h = choose_yes (dec_lt (length s) header_bytes) _ _ h

  module _ (long : header_bytes ≤ length s) where
    pub mark_first : get_or s 0 0 ≢ 0x51 → mark_due s ≡ 13
    unfolding mark_due
    mark_first h = choose_no (dec_lt (length s) header_bytes) _ _ (λ l. omega arith) ∙ choose_no (ℕ_discrete (get_or s 0 0) 0x51) _ _ h

    pub mark_second : get_or s 0 0 ≡ 0x51 → get_or s 1 0 ≢ 0x46 → mark_due s ≡ 13
    unfolding mark_due
    mark_second e h =
        choose_no (dec_lt (length s) header_bytes) _ _ (λ l. omega arith) ∙ choose_yes (ℕ_discrete (get_or s 0 0) 0x51) _ _ e ∙ choose_no (ℕ_discrete (get_or s 1 0) 0x46) _ _ h

    pub mark_none : get_or s 0 0 ≡ 0x51 → get_or s 1 0 ≡ 0x46 → mark_due s ≡ 0
    unfolding mark_due
    mark_none e h =
        choose_no (dec_lt (length s) header_bytes) _ _ (λ l. omega arith) ∙ choose_yes (ℕ_discrete (get_or s 0 0) 0x51) _ _ e ∙ choose_yes (ℕ_discrete (get_or s 1 0) 0x46) _ _ h

  pub none_mark : mark_due s ≡ 0 → header_bytes ≤ length s
  none_mark e = go (dec_lt (length s) header_bytes)
    where
      go : Dec (length s < header_bytes) → header_bytes ≤ length s
      go (yes h) = absurd (omega (arith, mark_short h))
      go (no h) = omega arith

-- ---- 14
pub limit_due_lem : (q : ℕ) → largest_qbits < q → limit_due q ≡ 14
unfolding limit_due
limit_due_lem q h = choose_yes (dec_lt largest_qbits q) 14 0 h

pub limit_none : (q : ℕ) → q ≤ largest_qbits → limit_due q ≡ 0
unfolding limit_due
limit_none q h = choose_no (dec_lt largest_qbits q) 14 0 (λ l. omega arith)

pub none_limit : (q : ℕ) → limit_due q ≡ 0 → q ≤ largest_qbits
none_limit q e = go (dec_lt largest_qbits q)
  where
    go : Dec (largest_qbits < q) → q ≤ largest_qbits
    go (yes h) = absurd (omega (arith, limit_due_lem q h))
    go (no h) = omega arith

-- ---- 13, 1, 14
module _ (s : List ℕ) where
  pub header_mark : 0 < mark_due s → header_due s ≡ mark_due s
  unfolding header_due
  header_mark h = else_some (mark_due s) _ h

  pub header_widths : mark_due s ≡ 0 → 0 < widths_due (qbits_of s) (rbits_of s) → header_due s ≡ widths_due (qbits_of s) (rbits_of s)
  unfolding header_due
  header_widths e h = else_none (mark_due s) _ e ∙ else_some (widths_due (qbits_of s) (rbits_of s)) _ h

  pub header_limit : mark_due s ≡ 0 → widths_due (qbits_of s) (rbits_of s) ≡ 0 → header_due s ≡ limit_due (qbits_of s)
  unfolding header_due
  header_limit e w = else_none (mark_due s) _ e ∙ else_none (widths_due (qbits_of s) (rbits_of s)) _ w

  -- what it means that none of them is due
  pub none_header : header_due s ≡ 0 → (header_bytes ≤ length s) × Widths (qbits_of s) (rbits_of s) × (qbits_of s ≤ largest_qbits)
  unfolding header_due
  none_header e =
      let e₁ = else_second (mark_due s) _ e in (
        none_mark s (else_first (mark_due s) _ e),
        none_widths (qbits_of s) (rbits_of s) (else_first (widths_due (qbits_of s) (rbits_of s)) _ e₁),
        none_limit (qbits_of s) (else_second (widths_due (qbits_of s) (rbits_of s)) _ e₁),
      )
