use Rattle.std.proofs.Common.{[], ◌+◌, ◌++◌, take, ◌∙◌}
use Rattle.std.specs.Prelude.{codes}
use Rattle.trace_shapes.specs.Places.{name_line}
use Rattle.trace_shapes.specs.Shapes.{with_number, name_tag, row_name}
use Rattle.trace_shapes.proofs.Added.{added_three}
use Rattle.trace_shapes.proofs.shapes.add_row_name.Goals as goal

pub returns-clause-text : goal.returns-clause-text
unfolding row_name
returns-clause-text c =
    let old = take c.args.at c.args.buf.now in
    let low = c.row_y.ensures.y in
    let kind = c.kind_in-kind.ensures in
    let line = c.name_line.ensures.line ∙ (λ i. name_line (kind i)) in
    let tag = c.name_tag.ensures.tag ∙ (λ i. name_tag (kind i)) in
    let number = c.from.ensures in
    added_three old _ _ _ _ _ _ [] [] c.add_with_number-at.ensures.text c.add_with_number-at-2.ensures.text c.add.ensures.text
    ∙ (λ i. old ++ (with_number (tag i) (low i + line i) ++ with_number (codes "'>t") (number i) ++ codes "</text>\n"))
