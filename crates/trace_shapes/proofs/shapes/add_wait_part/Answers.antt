use Rattle.trace_shapes.specs.Shapes.{wait_tag}
use Rattle.std.proofs.Common.{ap, ◌∙◌}
use Rattle.trace_shapes.proofs.Bars.{added_wait_part}
use Rattle.trace_shapes.proofs.shapes.add_wait_part.Goals as goal

pub returns-clause-text : goal.returns-clause-text
returns-clause-text c =
    added_wait_part c.args.tag.now c.args.reach.now c.args.o.now c.args.x c.args.end c.wait_y-y.result c.saturating_sub.result c.from.result c.wait_tag-height.result.now _ _ _ _ _ c.wait_y-y.ensures.y c.saturating_sub.ensures
    (c.wait_tag-height.ensures.tag ∙ ap wait_tag c.kind_in.ensures) c.from.ensures c.add-at.ensures.text c.add_box-at.ensures.text c.add_with_number-at.ensures.text c.add_span.ensures.text
