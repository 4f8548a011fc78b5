use Rattle.trace_shapes.proofs.Bars.{added_bar_name}
use Rattle.trace_shapes.proofs.shapes.add_bar_name.Goals as goal

pub returns-clause-text : goal.returns-clause-text
returns-clause-text c =
    added_bar_name c.args.name.now c.args.reach.now c.args.strip.now c.left_of-x.result c.lane_y-y.result c.from.result _ _ _ _ _ c.left_of-x.ensures.left c.lane_y-y.ensures.y c.from.ensures
    c.add-at.ensures.text c.add_place-at.ensures.text c.add_with_number-at.ensures.text c.add.ensures.text
