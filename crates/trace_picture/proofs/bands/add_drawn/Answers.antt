use Rattle.std.proofs.Common.{ap, sym, ◌∙◌}
use Rattle.std.proofs.lemmas.Bool.{cond-true}
use Rattle.trace_board.specs.History.{entry_of, origin_of}
use Rattle.trace_board.specs.Marks.{marks}
use Rattle.trace_board.specs.Tracked.{tracked_of, tracked_after}
use Rattle.trace_shapes.specs.Places.{in_view}
use Rattle.trace_picture.specs.Shown.{has_arrows, opened, shown_by}
use Rattle.trace_picture.proofs.Showing.{same_drawn}
use Rattle.trace_picture.proofs.bands.add_drawn.Goals as goal

pub returns-clause-kept : goal.returns-clause-kept
returns-clause-kept c =
    let l = c.args.layout.now in
    let v = c.args.view.now in
    let n = c.args.place in
    let e = c.args.e.now in
    let k = tracked_of c.args.drawing.now.board in
    let o = origin_of n e in
    let before = entry_of c.args.drawing.now.shown in
    let now = shown_by o (marks e) (has_arrows l k o (marks e)) (opened l v k o before) in
    same_drawn _ _ _ _ _ _ (c.note.ensures ∙ ap (tracked_after n e) c.add_event_shapes-at.ensures.kept)
    (c.add_event_shapes-at.ensures.shown ∙ sym (cond-true (in_view v n) now before c.requires.seen)) c.add_event_shapes-at.ensures.page
