use Rattle.trace_shapes.proofs.Bars.{added_taken}
use Rattle.trace_shapes.proofs.shapes.add_taken_bar.Goals as goal

pub returns-clause-text : goal.returns-clause-text
returns-clause-text c =
    added_taken c.args.reach.now c.args.strip.now c.from-s.result _ _ _ _ _ _ c.from-s.ensures c.add-at.ensures.text c.add_bar_box-at.ensures.text c.add_with_number-at.ensures.text
    c.add_span-at.ensures.text c.add_bar_name.ensures.text
