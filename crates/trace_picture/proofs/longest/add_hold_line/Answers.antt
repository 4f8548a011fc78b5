use Rattle.std.proofs.Common.{◌+◌, ◌++◌, take, ◌∙◌}
use Rattle.std.specs.Prelude.{codes}
use Rattle.trace_shapes.specs.declared.geometry.TheConstants.{NAME_LINE}
use Rattle.trace_shapes.specs.Shapes.{with_number, place_text}
use Rattle.trace_picture.specs.Longest.{sample_text, reported_hold, hold_line}
use Rattle.trace_shapes.proofs.Added.{added_five}
use Rattle.trace_picture.proofs.longest.add_hold_line.Goals as goal

pub returns-clause-text : goal.returns-clause-text
unfolding hold_line
returns-clause-text c =
    let old = take c.args.at c.args.buf.now in
    let m = c.args.mutex in
    let x = c.line_x-x.ensures.x in
    let y = c.line_y-y.ensures.y in
    added_five old _ _ _ _ _ _ _ _ c.add_sample-at.ensures.text c.add_text_place-at.ensures.text c.add_name_title-at.ensures.text _ _ c.add_reported-at.ensures.text c.add.ensures.text
    ∙ (λ i. old ++ (sample_text c.args.low m ++ (codes "<text class='t" ++ place_text (x i + 40) (y i + NAME_LINE)) ++ (with_number (codes "'><title>m") m ++ codes "</title>") ++ reported_hold c.args.hold ++ codes "</text>\n"))
