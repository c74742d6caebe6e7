-- `writing::remove::remove_core`: each way out is a case of the rule (specs/Remove). Assumes nothing.
use Rattle.std.proofs.Common.{arith}
use Rattle.theory.specs.images.Sizes.{slots_pos}
use Rattle.layout.specs.Refusals.{handed_on}
use Rattle.writing.specs.Remove.{RemovesCore, gone, core_absent, core_unshifted, core_before, core_gone}
use Rattle.writing.proofs.remove.remove_core.Goals as goal
use Rattle.writing.proofs.remove.remove_core.Goals.{After-write_out}

pub returns-in_default : goal.returns-in_default
returns-in_default c =
    let a = c.args in
    let q = c.quotient-x.ensures in
    core_absent a.shape c.requires.widths.low a.buf.now a.hash _ _ q.0 q.1 c.remainder-rem.ensures.0 c.in_default.ensures

pub returns-in_default-last_shifted : goal.returns-in_default-last_shifted
returns-in_default-last_shifted c =
    let a = c.args in
    let q = c.quotient-x.ensures in
    core_unshifted a.shape c.requires.widths.low a.buf.now a.hash _ _ q.0 q.1 c.remainder-rem.ensures.0 _ c.in-Some.ensures c.in_default-last_shifted.ensures

pub returns-then-e-copy : goal.returns-then-e-copy
returns-then-e-copy c =
    let a = c.args in
    let q = c.quotient-x.ensures in
    core_before a.shape c.requires.widths.low a.buf.now a.hash _ _ q.0 q.1 c.remainder-rem.ensures.0 _ c.in-Some.ensures _ c.in-Some-last_shifted.ensures c.if-e-copy.true

-- one copy fewer is written, or 6 met
wrote : (c : After-write_out) → RemovesCore c.args.shape c.args.hash c.args.buf.now (gone c.write_out.result) c.write_out.new.buf
wrote c =
    let a = c.args in
    let q = c.quotient-x.ensures in
    let d = c.in-Some-last_shifted.ensures in
    core_gone a.shape c.requires.widths.low a.buf.now a.hash _ _ q.0 q.1 c.remainder-rem.ensures.0 _ c.in-Some.ensures _ d _ _ c.in-Some.ensures.bound.2 (omega (arith, d.bound, slots_pos a.shape.qbits)) c.write_out.ensures

pub returns-in_err-write_out : goal.returns-in_err-write_out
returns-in_err-write_out c = rw (handed_on _ c.from_residual.ensures.1) (rw c.in_err-write_out.was at (wrote (goal.at.returns-in_err-write_out c).After-write_out))

pub returns : goal.returns
returns c = rw c.in_ok-write_out.was at (wrote (goal.at.returns c).After-write_out)
