use Rattle.trace_shapes.proofs.Bars.{added_object}
use Rattle.trace_shapes.proofs.shapes.add_object.Goals as goal

pub returns-clause-text : goal.returns-clause-text
returns-clause-text c =
    added_object c.args.band.now c.args.place c.args.e.now c.digits_of.result c.event_x.result c.number_left.result c.row_y-y.result c.from.result c.args.shown.now _ _ _ _ _
    c.digits_of.ensures c.event_x.ensures.x c.number_left.ensures.left c.row_y-y.ensures.y c.requires.same c.from.ensures
    c.add_with_number-at.ensures.text c.add_place-at.ensures.text c.add_with_number-at-2.ensures.text c.add.ensures.text
