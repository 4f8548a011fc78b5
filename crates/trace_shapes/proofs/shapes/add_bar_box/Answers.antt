use Rattle.trace_shapes.proofs.Bars.{added_bar_box}
use Rattle.trace_shapes.proofs.shapes.add_bar_box.Goals as goal

pub returns-clause-text : goal.returns-clause-text
returns-clause-text c =
    added_bar_box c.args.reach.now c.args.strip.now c.left_of-x.result c.lane_y-y.result c.width_of-width.result _ _ c.left_of-x.ensures.left c.lane_y-y.ensures.y c.width_of-width.ensures c.add_box.ensures.text
