use Rattle.std.proofs.Common.{None, rules}
use Rattle.larch_actions.proofs.Shown.{shown_at-set}
use Rattle.trace_board.proofs.holds.Longest.put.Goals as goal

pub returns : goal.returns
returns c = shown_at-set (λ x. x) None c.args.self.now.entries c.args.m c.args.now (search rules)
