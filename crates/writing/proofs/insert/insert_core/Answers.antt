-- `writing::insert::insert_core`: each way out is a case of the rule (specs/Insert). Assumes nothing.
use Rattle.std.proofs.Common.{arith}
use Rattle.writing.specs.Insert.{core_enough, core_full, core_missed, core_before, core_added}
use Rattle.writing.proofs.insert.insert_core.Goals as goal

pub returns-then-max_count-spot : goal.returns-then-max_count-spot
returns-then-max_count-spot c =
    let a = c.args in
    let q = c.quotient-x.ensures in
    core_enough a.shape c.requires.widths.low a.buf.now a.len a.hash a.max_count _ _ _ q.0 q.1 c.remainder-rem.ensures.0 c.find_spot-spot.ensures (omega (arith, c.if-max_count-spot.true))

pub returns-then-capacity-len : goal.returns-then-capacity-len
returns-then-capacity-len c =
    let a = c.args in
    let q = c.quotient-x.ensures in
    core_full a.shape c.requires.widths.low a.buf.now a.len a.hash a.max_count _ _ _ q.0 q.1 c.remainder-rem.ensures.0 c.find_spot-spot.ensures (omega (arith, c.if-max_count-spot.false)) (omega (arith, c.capacity.ensures.0))

pub returns-in_default : goal.returns-in_default
returns-in_default c =
    let a = c.args in
    let q = c.quotient-x.ensures in
    core_missed a.shape c.requires.widths.low a.buf.now a.len a.hash a.max_count _ _ _ q.0 q.1 c.remainder-rem.ensures.0 c.find_spot-spot.ensures c.if-max_count-spot.false c.in_default.ensures

pub returns-then-e-spot : goal.returns-then-e-spot
returns-then-e-spot c =
    let a = c.args in
    let q = c.quotient-x.ensures in
    core_before a.shape c.requires.widths.low a.buf.now a.len a.hash a.max_count _ _ _ q.0 q.1 c.remainder-rem.ensures.0 c.find_spot-spot.ensures c.if-max_count-spot.false _ c.in-Some.ensures c.if-e-spot.true

pub returns : goal.returns
returns c =
    let a = c.args in
    let q = c.quotient-x.ensures in
    core_added a.shape c.requires.widths.low a.buf.now a.len a.hash a.max_count _ _ _ q.0 q.1 c.remainder-rem.ensures.0 c.find_spot-spot.ensures c.if-max_count-spot.false _ c.in-Some.ensures _ c.write_in.ensures (omega (arith, c.capacity.ensures.0))
