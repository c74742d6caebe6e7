-- The header, the largest buffer and one byte more are enough: what stands behind them changes nothing of the text, so the program reads no
-- further. Assumes nothing.
use Rattle.std.specs.Prelude.{ℕ, zero, suc, ◌+◌, ◌-◌, ◌*◌, ◌≤◌, ◌<◌, ◌≡◌, ◌⊎◌, List, length, take, drop, get_or}
use Rattle.std.proofs.Common.{sym, ap, ◌∙◌, inl, inr, arith, add-zero, add-suc, pow-suc, mul_assoc, mul_left_comm, mul-le-mul_left, eq-zero-or-pos, length-drop, take_all, length-take-le}
use Rattle.std.proofs.Math.Decide.{dec_lt}
use Rattle.std.proofs.Math.Seq.{get_or-take}
use Rattle.theory.specs.tools.Choose.{choose_no}
use Rattle.theory.specs.Shape.{slots, blocks, bytes, Widths}
use Rattle.theory.specs.images.Sizes.{slots_blocks}
use Rattle.theory.specs.refusals.ByNumber.{else_none, due_size}
use Rattle.theory.specs.Report.{len_of, qbits_of, rbits_of, max_of, header_bytes, buffer_of, largest_qbits, header_due, number_due, mark_due, refused, report_of}
use Rattle.theory.specs.refusals.ProgramAsks.{none_header}
use Rattle.theory.specs.program.TextByDue.{report_header, report_number}

-- as many bytes of the input
unfoldable pub enough : ℕ
enough = header_bytes + bytes largest_qbits (64 - largest_qbits) + 1

-- ---- the largest buffer of some qbits is smaller than that of one more
blocks_next : (q : ℕ) → 6 ≤ q → blocks (suc q) ≡ 2 * blocks q
unfolding slots
blocks_next q h = omega (arith, slots_blocks q h, slots_blocks (suc q) (omega arith), pow-suc 2 q)

bytes_next : (q : ℕ) → 6 ≤ q → q < 64 → bytes q (64 - q) ≤ bytes (suc q) (64 - suc q)
unfolding bytes
bytes_next q h b =
    let d : 17 + 8 * (64 - q) ≤ 2 * (17 + 8 * (64 - suc q)) = omega arith in
    let m : blocks q * (17 + 8 * (64 - q)) ≤ blocks q * (2 * (17 + 8 * (64 - suc q))) = mul-le-mul_left (blocks q) d in
    let e : blocks (suc q) * (17 + 8 * (64 - suc q)) ≡ blocks q * (2 * (17 + 8 * (64 - suc q))) =
    rw (blocks_next q h) (mul_assoc 2 (blocks q) (17 + 8 * (64 - suc q)) ∙ sym (mul_left_comm (blocks q) 2 (17 + 8 * (64 - suc q)))) in
    omega (arith, e, m)

bytes_most : (q r : ℕ) → Widths q r → bytes q r ≤ bytes q (64 - q)
unfolding bytes
bytes_most q r w =
    let d : 17 + 8 * r ≤ 17 + 8 * (64 - q) = omega (arith, w.sum) in
    omega (arith, mul-le-mul_left (blocks q) d)

bytes_up : (d q : ℕ) → 6 ≤ q → q + d ≤ 64 → bytes q (64 - q) ≤ bytes (q + d) (64 - (q + d))
bytes_up zero q h b = rw (add-zero q) (omega arith)
bytes_up (suc d) q h b = rw (add-suc q d) (omega (arith, bytes_up d q h (omega arith), bytes_next (q + d) (omega arith) (omega arith)))

largest : (q r : ℕ) → Widths q r → q ≤ largest_qbits → largest_qbits ≤ 64 → bytes q r ≤ bytes largest_qbits (64 - largest_qbits)
largest q r w h m =
    let e : q + (largest_qbits - q) ≡ largest_qbits = omega arith in
    omega (arith, bytes_most q r w, rw e at (bytes_up (largest_qbits - q) q w.low (omega arith)))

-- ---- an input of as many bytes or more has no buffer that fits
too_long : (s : List ℕ) → enough ≤ length s → header_due s ≡ 0 → report_of s ≡ refused 2
unfolding enough largest_qbits buffer_of number_due
too_long s long none =
    let c = none_header s none in
    let b = largest (qbits_of s) (rbits_of s) c.1 c.2 (omega arith) in
    let e : number_due s ≡ 2 =
    else_none (header_due s) _ none ∙ due_size (qbits_of s) (rbits_of s) (len_of s) (max_of s) (length (drop header_bytes s)) (λ z. omega (arith, b, length-drop header_bytes s)) in
    report_number s (omega (arith, e)) ∙ ap refused e

-- ---- and the header is the same
module _ (s : List ℕ) (long : enough ≤ length s) where
  size : length (take enough s) ≡ enough
  size = length-take-le enough s long

  kept : (i : ℕ) → i < header_bytes → get_or (take enough s) i 0 ≡ get_or s i 0
  unfolding enough
  kept i h = get_or-take enough s i 0 (omega arith)

  same_mark : mark_due (take enough s) ≡ mark_due s
  unfolding mark_due enough
  same_mark =
      choose_no (dec_lt (length (take enough s)) header_bytes) _ _ (λ h. omega (arith, size)) ∙ rw (kept 0 (omega arith), kept 1 (omega arith))
      (sym (choose_no (dec_lt (length s) header_bytes) _ _ (λ h. omega arith)))

  same_header : header_due (take enough s) ≡ header_due s
  unfolding header_due qbits_of rbits_of
  same_header = rw (same_mark, kept 10 (omega arith), kept 11 (omega arith))

  cut : report_of (take enough s) ≡ report_of s
  cut = go (eq-zero-or-pos (header_due s))
    where
      go : (header_due s ≡ 0) ⊎ (0 < header_due s) → report_of (take enough s) ≡ report_of s
      go (inl e) = too_long (take enough s) (omega (arith, size)) (same_header ∙ e) ∙ sym (too_long s long e)
      go (inr d) =
          report_header (take enough s) (omega (arith, same_header)) ∙ ap refused same_header ∙ sym (report_header s d)

-- the text depends on no more of the input
pub cut_off : (s : List ℕ) → report_of (take enough s) ≡ report_of s
cut_off s = go (dec_lt (length s) enough)
  where
    go : Dec (length s < enough) → report_of (take enough s) ≡ report_of s
    go (yes h) = ap report_of (take_all enough s (omega arith))
    go (no h) = cut s (omega arith)
