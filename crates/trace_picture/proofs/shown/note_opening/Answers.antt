use Rattle.std.proofs.Common.{sym, eq-eqb, ◌∙◌}
use Rattle.std.specs.Prelude.{◌==◌}
use Rattle.std.proofs.lemmas.Bool.{cond-true, cond-false, ne_eqb}
use Rattle.trace_board.specs.History.{entry_of}
use Rattle.trace_board.specs.Tracked.{tracked_of}
use Rattle.trace_shapes.specs.Places.{column}
use Rattle.trace_picture.specs.Shown.{going_on}
use Rattle.trace_picture.proofs.shown.note_opening.Goals as goal

pub returns-then-column_of-eq0 : goal.returns-then-column_of-eq0
returns-then-column_of-eq0 c =
    let by = c.args.by in
    let n = column c.args.view.now by.place in
    let shown = entry_of c.args.shown.now in
    let now = going_on c.args.layout.now (tracked_of c.args.board.now) by shown in
    c.note_going_on.ensures ∙ sym (cond-true (n == 0) now shown (eq-eqb n 0 (sym c.column_of.ensures.column ∙ c.if-column_of-eq0.true)))

pub returns-else-column_of-eq0 : goal.returns-else-column_of-eq0
returns-else-column_of-eq0 c =
    let by = c.args.by in
    let n = column c.args.view.now by.place in
    let shown = entry_of c.args.shown.now in
    let now = going_on c.args.layout.now (tracked_of c.args.board.now) by shown in
    sym (cond-false (n == 0) now shown (ne_eqb n 0 (λ e. c.if-column_of-eq0.false (c.column_of.ensures.column ∙ e))))
