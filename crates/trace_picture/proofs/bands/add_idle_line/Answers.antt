use Rattle.std.proofs.Common.{◌+◌, ◌++◌, take, ap, ◌∙◌}
use Rattle.std.specs.Prelude.{codes}
use Rattle.trace_board.specs.Tracked.{tracked_of}
use Rattle.trace_shapes.specs.declared.geometry.TheConstants.{NAME_LINE}
use Rattle.trace_shapes.specs.Shapes.{with_number, each_below}
use Rattle.trace_shapes.proofs.Added.{added_five}
use Rattle.trace_picture.specs.Bands.{idle_name, more_idle, idle_line}
use Rattle.trace_picture.proofs.bands.add_idle_line.Goals as goal

pub returns-clause-text : goal.returns-clause-text
unfolding idle_line
returns-clause-text c =
    let old = take c.args.at c.args.buf.now in
    let l = c.args.layout.now in
    let names = each_below (idle_name l.version c.args.plan.now (tracked_of c.args.board.now)) l.threads in
    let line = c.from-line.ensures in
    let count = c.requires.count in
    added_five old _ _ _ _ _ _ _ _ c.add_with_number-at.ensures.text c.add-at.ensures.text c.add_idle_names-at.ensures.text _ _ c.add_more_idle-at.ensures.text c.add.ensures.text
    ∙ (λ i. old ++ (with_number (codes "<text class='c' x='6' y='") (line i + NAME_LINE) ++ codes "'>idle:" ++ names ++ more_idle (count i) ++ codes "</text>\n"))
