use Rattle.std.proofs.Common.{ℕ, ap, sym, ◌∙◌, Some}
use Rattle.std.proofs.lemmas.Bool.{cond-true}
use Rattle.larch_actions.specs.Actions.{put}
use Rattle.trace_board.specs.History.{entry_of}
use Rattle.trace_picture.proofs.shown.show_if.Goals as goal

pub returns-then-so : goal.returns-then-so
returns-then-so c =
    let shown = entry_of c.args.shown.now in
    let by = c.args.by in
    c.note.ensures ∙ ap (λ (k : ℕ). put shown k (Some by)) c.from.ensures ∙ sym (cond-true c.args.so (put shown c.args.name (Some by)) shown c.if-so.true)
