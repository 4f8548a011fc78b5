use Rattle.std.proofs.Common.{◌+◌, ◌++◌, take, ◌∙◌}
use Rattle.std.specs.Prelude.{codes}
use Rattle.trace_shapes.specs.declared.geometry.TheConstants.{NAME_LEFT, NAME_LINE}
use Rattle.trace_shapes.specs.Shapes.{with_number, place_text}
use Rattle.trace_picture.specs.Longest.{sample_text}
use Rattle.trace_shapes.proofs.Added.{added_five}
use Rattle.trace_picture.proofs.longest.add_sample.Goals as goal

pub returns-clause-text : goal.returns-clause-text
unfolding sample_text
returns-clause-text c =
    let old = take c.args.at c.args.buf.now in
    let m = c.from-m.ensures in
    let x = c.line_x-x.ensures.x in
    let y = c.line_y-y.ensures.y in
    added_five old _ _ _ _ _ _ _ _ c.add_with_number-at.ensures.text c.add_place-at.ensures.text c.add_text_place-at.ensures.text _ _ c.add_with_number-at-2.ensures.text c.add.ensures.text
    ∙ (λ i. old ++ (with_number (codes "<rect width='34' height='12' rx='2' class='m") (m i) ++ place_text (x i) (y i) ++ (codes "'/><text class='x" ++ place_text (x i + NAME_LEFT) (y i + NAME_LINE)) ++ with_number (codes "'>m") (m i) ++ codes "</text>"))
