use Rattle.std.proofs.Common.{◌<◌, None, Some, ap, sym, ◌∙◌, subst, rules}
use Rattle.larch_actions.proofs.Shown.{shown_at-set}
use Rattle.trace_board.specs.History.{changed, entry_of, IsWithin}
use Rattle.trace_board.proofs.history.Table.note.Goals as goal

pub returns-in-Begins : goal.returns-in-Begins
returns-in-Begins c =
    let here : c.in-Begins.k < 256 = subst IsWithin c.in-Begins.is c.requires in
    shown_at-set (λ x. x) None c.args.self.now.entries c.in-Begins.k (Some c.args.by) (search rules)
    ∙ ap (λ t. changed t c.args.by (entry_of c.args.self.now)) (sym c.in-Begins.is)

pub returns-in-Ends : goal.returns-in-Ends
returns-in-Ends c =
    let here : c.in-Ends.k < 256 = subst IsWithin c.in-Ends.is c.requires in
    shown_at-set (λ x. x) None c.args.self.now.entries c.in-Ends.k None (search rules)
    ∙ ap (λ t. changed t c.args.by (entry_of c.args.self.now)) (sym c.in-Ends.is)
