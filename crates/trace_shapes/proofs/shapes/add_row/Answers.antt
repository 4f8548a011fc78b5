use Rattle.std.proofs.Common.{[], ◌++◌, take, ◌∙◌}
use Rattle.std.specs.Prelude.{codes}
use Rattle.trace_shapes.specs.Shapes.{with_number, row_name, row_text}
use Rattle.trace_shapes.proofs.Added.{added_three}
use Rattle.trace_shapes.proofs.shapes.add_row.Goals as goal

pub returns-clause-text : goal.returns-clause-text
unfolding row_text
returns-clause-text c =
    let old = take c.args.at c.args.buf.now in
    let height = c.row_height-height.ensures.height in
    let high = c.row_y.ensures.y in
    added_three old _ _ _ _ _ _ [] [] c.add_with_number-at.ensures.text c.add_with_number-at-2.ensures.text c.add_row_name.ensures.text
    ∙ (λ i. old ++ (with_number (codes "<rect class='r' x='40' width='1208' height='") (height i) ++ with_number (codes "' y='") (high i) ++ row_name c.args.band.now c.args.thread))
