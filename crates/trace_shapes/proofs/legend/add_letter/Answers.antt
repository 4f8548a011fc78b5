use Rattle.std.proofs.Common.{[], ◌∷◌, ◌++◌, take, ◌∙◌}
use Rattle.std.specs.Prelude.{codes}
use Rattle.trace_shapes.specs.Shapes.{with_number}
use Rattle.trace_shapes.specs.Legend.{letter_text}
use Rattle.trace_shapes.proofs.Added.{added_two}
use Rattle.trace_shapes.proofs.legend.add_letter.Goals as goal

pub returns-clause-text : goal.returns-clause-text
unfolding letter_text
returns-clause-text c =
    let old = take c.args.at c.args.buf.now in
    let left = c.letter_x.ensures in
    let look = c.look_of.ensures in
    added_two old _ _ _ _ c.add_with_number-at.ensures.text c.add_with_byte.ensures.text
    ∙ (λ i. old ++ (with_number (codes "' width='22' height='15' rx='3'/><text class='i' y='12' x='") (left i) ++ (codes "'>" ++ (look i).shown ∷ [])))
