use Rattle.std.proofs.Common.{[], ◌+◌, ◌++◌, take, ◌∙◌}
use Rattle.std.specs.Prelude.{codes}
use Rattle.trace_shapes.specs.declared.geometry.TheConstants.{MIDDLE}
use Rattle.trace_shapes.specs.Shapes.{with_number, strike_text}
use Rattle.trace_shapes.proofs.Added.{added_three}
use Rattle.trace_shapes.proofs.shapes.add_strike.Goals as goal

pub returns-clause-text : goal.returns-clause-text
unfolding strike_text
returns-clause-text c =
    let old = take c.args.at c.args.buf.now in
    let x = c.event_x-x.ensures.x in
    let end = c.from.ensures in
    added_three old _ _ _ _ _ _ [] [] c.add_with_number-at.ensures.text c.add_with_number-at-2.ensures.text c.add.ensures.text
    ∙ (λ i. old ++ (with_number (codes "<path class='fl' d='M") (x i + MIDDLE) ++ with_number (codes " 19V") (end i) ++ codes "'/>\n"))
