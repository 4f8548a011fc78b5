use Rattle.std.proofs.Common.{sym, ◌∙◌, rules}
use Rattle.larch_actions.proofs.Shown.{shown_at-get_or, shown_at-past}
use Rattle.trace_shapes.specs.Places.{no_row}
use Rattle.trace_shapes.proofs.view.Plan.at.Goals as goal

pub returns-then-t-lt256 : goal.returns-then-t-lt256
returns-then-t-lt256 c = sym (shown_at-get_or (λ x. x) no_row c.args.self.now.rows c.args.t _ (search rules))

pub returns-else-t-lt256 : goal.returns-else-t-lt256
returns-else-t-lt256 c = c.none.ensures ∙ sym (shown_at-past (λ x. x) no_row c.args.self.now.rows c.args.t (search rules))
