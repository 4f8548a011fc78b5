use Rattle.std.proofs.Common.{◌+◌, ◌++◌, take, ◌∙◌}
use Rattle.trace_board.specs.History.{entry_of}
use Rattle.trace_board.specs.Tracked.{tracked_of}
use Rattle.trace_shapes.proofs.Added.{added_two}
use Rattle.trace_picture.specs.declared.verdicts.TheConstants.{THREE_LINES}
use Rattle.trace_picture.specs.Bands.{failing_text}
use Rattle.trace_picture.specs.Verdicts.{refusal}
use Rattle.trace_picture.specs.Shown.{shown_failed}
use Rattle.trace_picture.specs.Picture.{end_text}
use Rattle.trace_picture.proofs.endings.add_failed_ending.Goals as goal

pub returns-clause-text : goal.returns-clause-text
returns-clause-text c =
    let l = c.args.layout.now in
    let v = c.args.view.now in
    let n = c.args.place in
    let e = c.args.e.now in
    let why = c.args.why in
    let old = take c.args.at c.args.buf.now in
    let k = tracked_of c.args.drawing.now.board in
    let p = c.args.drawing.now.page in
    let m = c.marks_of.ensures in
    let shown = c.note_failing.ensures ∙ (λ i. shown_failed l v k (record { thread = e.thread; object = (m i).object; place = n }) (entry_of c.args.drawing.now.shown)) in
    added_two old _ _ _ _ c.add_failing-at.ensures.text c.add_failed_end.ensures.text
    ∙ (λ i. old ++ (failing_text l v p k n e why ++ end_text l v (record { board = k; shown = shown i; page = p }) (n + 1) THREE_LINES (refusal l.version v k n e why)))
