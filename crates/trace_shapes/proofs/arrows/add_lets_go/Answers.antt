use Rattle.std.proofs.Common.{◌++◌, take, ◌∙◌}
use Rattle.std.specs.Prelude.{codes}
use Rattle.trace_shapes.specs.Shapes.{with_number}
use Rattle.trace_shapes.specs.Arrows.{lets_go}
use Rattle.trace_shapes.proofs.Added.{added_two}
use Rattle.trace_shapes.proofs.arrows.add_lets_go.Goals as goal

pub returns-clause-text : goal.returns-clause-text
unfolding lets_go
returns-clause-text c =
    let old = take c.args.at c.args.buf.now in
    let number = c.from.ensures in
    added_two old _ _ _ _ c.add_with_number-at.ensures.text c.add.ensures.text ∙ (λ i. old ++ (with_number (codes " lets t") (number i) ++ codes " go on</title></path>\n"))
