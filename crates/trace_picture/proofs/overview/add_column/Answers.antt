use Rattle.std.proofs.Common.{◌+◌, ◌*◌, ◌/◌, [], ◌++◌, take, ◌∙◌}
use Rattle.std.specs.Prelude.{codes}
use Rattle.trace_board.specs.Tracked.{tracked_of}
use Rattle.trace_shapes.specs.Shapes.{each_below}
use Rattle.trace_picture.specs.Overview.{over_x, ran_cell, held_cell, link_text, column_text}
use Rattle.trace_shapes.proofs.Added.{added_four}
use Rattle.trace_picture.proofs.overview.add_column.Goals as goal

pub returns-clause-text : goal.returns-clause-text
unfolding column_text
returns-clause-text c =
    let old = take c.args.at c.args.buf.now in
    let l = c.args.layout.now in
    let k = tracked_of c.args.board.now in
    let band = c.args.band in
    let start = c.args.start in
    let high = c.height_of_columns.ensures.height in
    let threads = c.from.ensures in
    added_four old _ _ _ _ _ _ _ [] c.add_link-at.ensures.text c.add_each_ran-at.ensures.text c.add_each_held-at.ensures.text _ c.add.ensures.text
    ∙ (λ i. old ++ (link_text band start c.args.to ++ each_below (ran_cell k start (over_x band) (band / 100 * high i)) l.threads ++ each_below (held_cell k start (over_x band) (band / 100 * high i + 6 * threads i + 6)) l.mutexes ++ codes "</a>\n"))
