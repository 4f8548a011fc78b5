use Rattle.std.proofs.Common.{◌++◌, take, ◌∙◌}
use Rattle.std.specs.Prelude.{codes}
use Rattle.trace_board.specs.Tracked.{tracked_of}
use Rattle.trace_picture.specs.Overview.{column_text}
use Rattle.trace_picture.specs.Bands.{band_end}
use Rattle.trace_shapes.proofs.Added.{added_two}
use Rattle.trace_picture.proofs.bands.add_band_end.Goals as goal

pub returns-clause-text : goal.returns-clause-text
unfolding band_end
returns-clause-text c =
    let old = take c.args.at c.args.buf.now in
    let number = c.number_of-number.ensures.number in
    added_two old _ _ _ _ c.add-at.ensures.text c.add_column.ensures.text ∙ (λ i. old ++ (codes "</g>\n" ++ column_text c.args.layout.now (tracked_of c.args.board.now) (number i) c.args.band.now.start c.args.to))
