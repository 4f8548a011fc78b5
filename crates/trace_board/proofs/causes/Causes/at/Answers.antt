use Rattle.std.proofs.Common.{sym, rules}
use Rattle.larch_actions.proofs.Shown.{shown_at-get_or}
use Rattle.trace_board.specs.declared.causes.Cause.TheVariants.{Never}
use Rattle.trace_board.proofs.causes.Causes.at.Goals as goal

pub returns : goal.returns
returns c = sym (shown_at-get_or (λ x. x) Never c.args.self.now.entries c.args.k Never (search rules))
