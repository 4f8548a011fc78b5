use Rattle.std.proofs.Common.{true, sym, ◌∙◌}
use Rattle.std.proofs.lemmas.Bool.{cond-true, cond-false}
use Rattle.trace_board.specs.declared.marks.Mark.TheVariants.{Failed}
use Rattle.trace_board.specs.History.{entry_of}
use Rattle.trace_board.specs.Tracked.{tracked_of}
use Rattle.trace_shapes.specs.Looks.{look_of}
use Rattle.trace_shapes.specs.Places.{in_view}
use Rattle.trace_picture.specs.Shown.{shown_if, opened}
use Rattle.trace_picture.proofs.shown.note_failing.Goals as goal

pub returns-then-is_in_view : goal.returns-then-is_in_view
returns-then-is_in_view c =
    let by = c.args.by in
    let v = c.args.view.now in
    let before = entry_of c.args.shown.now in
    let now = shown_if (look_of Failed).letter true by (opened c.args.layout.now v (tracked_of c.args.board.now) by before) in
    let look = c.look_of.ensures in
    let opening = c.note_opening.ensures in
    c.show_if.ensures ∙ (λ i. shown_if (look i).letter true by (opening i))
    ∙ sym (cond-true (in_view v by.place) now before (sym c.is_in_view.ensures ∙ c.if-is_in_view.true))

pub returns-else-is_in_view : goal.returns-else-is_in_view
returns-else-is_in_view c =
    let by = c.args.by in
    let v = c.args.view.now in
    let before = entry_of c.args.shown.now in
    let now = shown_if (look_of Failed).letter true by (opened c.args.layout.now v (tracked_of c.args.board.now) by before) in
    sym (cond-false (in_view v by.place) now before (sym c.is_in_view.ensures ∙ c.if-is_in_view.false))
