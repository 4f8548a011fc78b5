use Rattle.trace_shapes.proofs.Bars.{added_failed}
use Rattle.trace_shapes.proofs.shapes.add_failed_mark.Goals as goal

pub returns-clause-text : goal.returns-clause-text
returns-clause-text c =
    added_failed c.args.band.now c.args.place c.args.e.now c.args.why _ _ _ _ _ _ c.add-at.ensures.text c.add_mark_place-at.ensures.text c.add_title-at.ensures.text c.add_why-at.ensures.text c.add.ensures.text
