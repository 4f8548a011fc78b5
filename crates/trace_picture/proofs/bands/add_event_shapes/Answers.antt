use Rattle.std.proofs.Common.{◌≤◌, ◌++◌, length, take, refl, ap, ◌∙◌, arith}
use Rattle.trace_board.specs.History.{entry_of, origin_of}
use Rattle.trace_board.specs.Marks.{marks}
use Rattle.trace_shapes.specs.Places.{band_of}
use Rattle.trace_board.specs.declared.history.Origin.{Origin}
use Rattle.trace_board.specs.Tracked.{tracked_of}
use Rattle.trace_shapes.proofs.Added.{added_two}
use Rattle.trace_picture.specs.Bands.{event_marks, arrows_at, event_shapes}
use Rattle.trace_picture.specs.Shown.{has_text, bare_band, opened, shown_by}
use Rattle.trace_picture.proofs.Showing.{text_there, same_arrows}
use Rattle.trace_picture.proofs.bands.add_event_shapes.Goals as goal

pub returns-clause-text : goal.returns-clause-text
unfolding event_shapes
returns-clause-text c =
    let old = take c.args.at c.args.buf.now in
    let k = tracked_of c.args.drawing.now.board in
    let n = c.args.place in
    let e = c.args.e.now in
    let b = c.band_of-band.ensures in
    let m = c.marks_of-shown.ensures in
    added_two old _ _ _ _ c.add_event_marks-marked.ensures.text c.add_arrows-end.ensures.text
    ∙ (λ i. old ++ (event_marks c.args.view.now.ordered (b i) k n e ++ arrows_at (b i) k (record { thread = e.thread; object = (m i).object; place = n }) (m i)))

pub returns-clause-shown : goal.returns-clause-shown
returns-clause-shown c =
    let l = c.args.layout.now in
    let v = c.args.view.now in
    let k = tracked_of c.args.drawing.now.board in
    let n = c.args.place in
    let e = c.args.e.now in
    let b = c.band_of-band.ensures in
    let m = c.marks_of-shown.ensures in
    let marked = c.add_event_marks-marked in
    let end = c.add_arrows-end in
    let within : marked.result ≤ length marked.new.buf = omega (arith, marked.ensures.near, marked.auto.buf, c.requires.room) in
    let within_too : end.result ≤ length end.new.buf = omega (arith, marked.ensures.near, end.ensures.near, marked.auto.buf, end.auto.buf, c.requires.room) in
    let arrows = text_there marked.new.buf end.new.buf _ marked.result end.result within within_too end.ensures.text in
    let shown = entry_of c.args.drawing.now.shown in
    let o = origin_of n e in
    let own = c.marks_of-shown.result in
    let by : Origin = record { thread = e.thread; object = own.object; place = n } in
    let opening = c.note_opening.ensures in
    c.note_event.ensures ∙ (λ i. shown_by by own (arrows i) (opening i))
    ∙ (λ i. shown_by (record { thread = e.thread; object = (m i).object; place = n }) (m i) (has_text (arrows_at (b i) k (record { thread = e.thread; object = (m i).object; place = n }) (m i))) (opened l v k (record { thread = e.thread; object = (m i).object; place = n }) shown))
    ∙ ap (λ x. shown_by o (marks e) x (opened l v k o shown)) (same_arrows (band_of l v c.args.drawing.now.page.plan n) (bare_band l) refl k o (marks e))
