use Rattle.trace_shapes.proofs.Bars.{added_bar}
use Rattle.trace_shapes.proofs.shapes.add_bar.Goals as goal

pub returns-clause-text : goal.returns-clause-text
returns-clause-text c =
    added_bar c.args.reach.now c.args.strip.now c.from-m.result _ _ _ _ _ _ _ c.from-m.ensures c.add_with_number-at.ensures.text c.add_bar_box-at.ensures.text c.add_with_number-at-2.ensures.text
    c.add_span-at.ensures.text c.add_given-at.ensures.text c.add_bar_name.ensures.text
