-- `growth::rebuild::rebuild_into`: 12, or all taken in. Assumes nothing.
use mathlib.Core.Path.{◌∙◌}
use native.Mathlib.Omega.{arith}
use Rattle.layout.specs.Refusals.{handed_on}
use Rattle.growth.specs.Reading.{reads_takes}
use Rattle.growth.specs.Rebuilding.{into_refused, into_built}
use Rattle.growth.proofs.rebuild.rebuild_into.Goals as goal

pub returns-in_err-empty_out : goal.returns-in_err-empty_out
returns-in_err-empty_out c =
    let a = c.args in
    rw (handed_on _ c.from_residual.ensures.1) (into_refused a.n a.buf.now c.requires.0 a.shape a.dest.now _ _ c.in_err-empty_out.ensures)

pub take_in-len-requires : goal.take_in-len-requires
take_in-len-requires c =
    let o = c.empty_out in
    (record { widths = c.requires.1.widths; fits = o.auto.dest ∙ c.in_ok-empty_out.ensures.2 }, omega (arith, c.new.ensures.len))

pub returns : goal.returns
returns c =
    let a = c.args in
    let k = c.take_in-len in
    rw c.with_shape.ensures
    (into_built a.n a.buf.now c.requires.0 a.shape c.requires.1 a.dest.now _ _ c.in_ok-empty_out.ensures 18446744073709551615 _ (omega arith) _ (λ i. omega (arith, c.type_inv.dest i)) (k.auto.dest ∙ c.empty_out.auto.dest)
    (reads_takes a.n a.buf.now _ c.new.ensures a.shape _ 0 18446744073709551615 _ _ k.ensures))
