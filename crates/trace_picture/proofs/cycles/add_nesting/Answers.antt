use Rattle.trace_picture.proofs.Ringing.{added_nesting}
use Rattle.trace_picture.proofs.cycles.add_nesting.Goals as goal

pub returns-clause-text : goal.returns-clause-text
returns-clause-text c =
    added_nesting c.args.edge.now c.from.result c.from-2.result c.from-3.result _ _ _ _ _ _ _ c.from.ensures c.from-2.ensures c.from-3.ensures
    c.add_with_number-at.ensures.text c.add_with_number-at-2.ensures.text c.add_with_number-at-3.ensures.text c.add_with_number-at-4.ensures.text c.add_with_number-at-5.ensures.text c.add.ensures.text
