-- `layout::numbers::Numbers::with_len`: the record at its own widths. Assumes nothing.
use mathlib.Core.Path.{◌∙◌, ap}
use Rattle.layout.specs.declared.shape.Shape.{Shape}
use Rattle.layout.specs.Records.{with_shape}
use Rattle.layout.proofs.numbers.Numbers.with_len.Goals as goal

pub returns : goal.returns
returns c =
    let a = c.args in
    c.with_shape.ensures ∙ ap (λ (h : Shape). with_shape a.self h a.len) c.shape.ensures
