use Rattle.std.proofs.Common.{◌++◌, take, ◌∙◌}
use Rattle.std.specs.Prelude.{codes}
use Rattle.trace_shapes.specs.Shapes.{wait_part, in_text}
use Rattle.trace_shapes.proofs.Added.{added_two}
use Rattle.trace_shapes.proofs.shapes.add_in.Goals as goal

pub returns-clause-text : goal.returns-clause-text
unfolding in_text
returns-clause-text c =
    let old = take c.args.at c.args.buf.now in
    let x = c.wait_x-x.ensures.x in
    added_two old _ _ _ _ c.add_wait_part-at.ensures.text c.add.ensures.text
    ∙ (λ i. old ++ (wait_part (codes "<rect class='h") c.args.reach.now c.args.o.now (x i) c.args.end ++ codes "</title></rect>\n"))
