use Rattle.std.proofs.Common.{◌++◌, take, ◌∙◌}
use Rattle.trace_board.specs.Tracked.{tracked_of}
use Rattle.trace_shapes.specs.Shapes.{number_text, mark_text, object_if}
use Rattle.trace_shapes.proofs.Added.{added_five}
use Rattle.trace_picture.specs.Lives.{life_row}
use Rattle.trace_picture.specs.Bands.{up_to, bars_ended}
use Rattle.trace_picture.proofs.bands.add_event_marks.Goals as goal

pub returns-clause-text : goal.returns-clause-text
returns-clause-text c =
    let old = take c.args.at c.args.buf.now in
    let b = c.args.reach.now.band in
    let k = tracked_of c.args.board.now in
    let n = c.args.place in
    let e = c.args.e.now in
    let m = c.requires.same in
    added_five old _ _ _ _ _ _ _ _ c.add_label-at.ensures.text c.add_life_row-at.ensures.text c.add_mark-at.ensures.text _ _ c.add_object_if-at.ensures.text c.add_bars_ended.ensures.text
    ∙ (λ i. old ++ (number_text b n ++ life_row b n (m i).life ++ mark_text c.args.ordered b n e ++ object_if b n e ++ bars_ended (c.requires.reach i) k (m i)))
