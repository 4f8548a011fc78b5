use Rattle.std.proofs.Common.{None, sym, rules}
use Rattle.larch_actions.proofs.Shown.{shown_at-get_or}
use Rattle.trace_board.proofs.history.Table.at.Goals as goal

pub returns : goal.returns
returns c = sym (shown_at-get_or (λ x. x) None c.args.self.now.entries c.args.k None (search rules))
