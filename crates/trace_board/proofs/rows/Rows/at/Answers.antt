use Rattle.std.proofs.Common.{sym, ◌∙◌, rules}
use Rattle.larch_actions.proofs.Shown.{shown_at-get_or, shown_at-past}
use Rattle.trace_board.specs.Rows.{empty_row}
use Rattle.trace_board.proofs.rows.Rows.at.Goals as goal

pub returns-then-t-lt256 : goal.returns-then-t-lt256
returns-then-t-lt256 c = sym (shown_at-get_or (λ x. x) empty_row c.args.self.now.entries c.args.t empty_row (search rules))

pub returns-else-t-lt256 : goal.returns-else-t-lt256
returns-else-t-lt256 c = c.empty.ensures ∙ sym (shown_at-past (λ x. x) empty_row c.args.self.now.entries c.args.t (search rules))
