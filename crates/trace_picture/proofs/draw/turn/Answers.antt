use Rattle.std.proofs.Common.{◌≡◌, ℕ, ◌<◌, List, [], ◌∷◌, length, refl, ap, sym, subst, ◌∙◌, arith}
use Rattle.larch_actions.specs.declared.event.Event.{Event}
use Rattle.larch_actions.specs.declared.event.Layout.{Layout}
use Rattle.trace_board.specs.History.{entry_of}
use Rattle.trace_board.specs.Tracked.{tracked_of}
use Rattle.trace_picture.specs.declared.plan.Page.{Page}
use Rattle.trace_picture.specs.Plan.{page_of}
use Rattle.trace_picture.specs.Shown.{Drawn, drawn_of}
use Rattle.trace_picture.specs.Keeping.{turned}
use Rattle.trace_picture.proofs.draw.turn.Goals as goal

turned_is : (l : Layout) (d : Drawn) (es : List Event) → 0 < length es → (let x : Drawn = record { board = d.board; shown = d.shown; page = page_of l d.board es d.page.next } in x) ≡ turned l es d
turned_is l d [] some = absurd (omega arith)
turned_is l d (e ∷ es) some = refl

pub returns-then-len-gt0-clause-turned : goal.returns-then-len-gt0-clause-turned
returns-then-len-gt0-clause-turned c =
    let d = drawn_of c.args.drawing.now in
    ap (λ (q : Page). let x : Drawn = record { board = d.board; shown = d.shown; page = q } in x) c.of_band-drawing.ensures.page
    ∙ turned_is c.args.layout.now d c.args.kept.now (omega (arith, c.len.ensures.count, c.if-len-gt0.true))
