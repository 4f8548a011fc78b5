use Rattle.std.proofs.Common.{[], ◌++◌, take, refl, ap, sym, ◌∙◌}
use Rattle.std.proofs.lemmas.Bool.{cond-true, cond-false}
use Rattle.trace_board.specs.History.{entry_of, origin_of}
use Rattle.trace_board.specs.Marks.{marks}
use Rattle.trace_board.specs.Tracked.{tracked_of, tracked_after}
use Rattle.trace_shapes.specs.Places.{in_view, band_of}
use Rattle.trace_picture.specs.Bands.{opening, event_shapes, closing_after, step_text}
use Rattle.trace_picture.specs.Shown.{Drawn, has_arrows, opened, shown_by}
use Rattle.trace_picture.proofs.Showing.{same_drawn}
use Rattle.trace_picture.proofs.bands.add_step.Goals as goal

pub returns-then-is_in_view-clause-text : goal.returns-then-is_in_view-clause-text
unfolding step_text
returns-then-is_in_view-clause-text c =
    let l = c.args.layout.now in
    let v = c.args.view.now in
    let n = c.args.place in
    let e = c.args.e.now in
    let old = take c.args.at c.args.buf.now in
    let k = tracked_of c.args.drawing.now.board in
    let p = c.args.drawing.now.page in
    let drawn = opening l v p k n ++ event_shapes v.ordered (band_of l v p.plan n) k n e ++ closing_after l v p.plan (tracked_after n e k) n in
    c.add_drawn.ensures.text ∙ ap (λ (x : Drawn). old ++ (opening l v p k n ++ event_shapes v.ordered (band_of l v p.plan n) k n e ++ closing_after l v p.plan x.board n)) c.add_drawn.ensures.kept
    ∙ ap (λ x. old ++ x) (sym (cond-true (in_view v n) drawn [] (sym c.is_in_view.ensures ∙ c.if-is_in_view.true)))

pub returns-else-is_in_view-clause-kept : goal.returns-else-is_in_view-clause-kept
returns-else-is_in_view-clause-kept c =
    let l = c.args.layout.now in
    let v = c.args.view.now in
    let n = c.args.place in
    let e = c.args.e.now in
    let k = tracked_of c.args.drawing.now.board in
    let o = origin_of n e in
    let before = entry_of c.args.drawing.now.shown in
    let now = shown_by o (marks e) (has_arrows l k o (marks e)) (opened l v k o before) in
    same_drawn _ _ _ _ _ _ c.note.ensures (sym (cond-false (in_view v n) now before (sym c.is_in_view.ensures ∙ c.if-is_in_view.false))) refl
