use Rattle.std.proofs.Common.{◌+◌, ◌∙◌}
use Rattle.trace_shapes.specs.Places.{wait_line}
use Rattle.trace_shapes.proofs.Bars.{added_wait_name}
use Rattle.trace_shapes.proofs.shapes.add_wait_name.Goals as goal

pub returns-clause-text : goal.returns-clause-text
returns-clause-text c =
    let top = c.wait_y.ensures.y in
    let kind = c.kind_in.ensures in
    let line = c.wait_line.ensures.line ∙ (λ i. wait_line (kind i)) in
    added_wait_name c.args.reach.now c.args.o.now c.wait_x-x.result (c.wait_y.result + c.wait_line.result) c.from.result _ _ _ _ _ c.wait_x-x.ensures.x (λ i. top i + line i) c.from.ensures
    c.add-at.ensures.text c.add_place-at.ensures.text c.add_with_number-at.ensures.text c.add.ensures.text
