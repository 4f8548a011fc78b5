use Rattle.trace_shapes.proofs.Bars.{added_out}
use Rattle.trace_shapes.proofs.shapes.add_out.Goals as goal

pub returns-clause-text : goal.returns-clause-text
returns-clause-text c =
    added_out c.args.reach.now c.args.o.now c.args.p.now c.let_go_x-x.result c.wait_end-end.result c.from.result _ _ _ _ _ c.let_go_x-x.ensures c.wait_end-end.ensures c.from.ensures
    c.add_wait_part-at.ensures.text c.add_with_number-at.ensures.text c.add_with_number-at-2.ensures.text c.add.ensures.text
