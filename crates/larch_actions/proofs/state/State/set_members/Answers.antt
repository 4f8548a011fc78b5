use Rattle.std.proofs.Common.{rules}
use Rattle.larch_actions.proofs.Shown.{set-members}
use Rattle.larch_actions.specs.contracts.state.State.{the_view}
use Rattle.larch_actions.proofs.state.State.set_members.Goals as goal

pub returns-clause-spec : goal.returns-clause-spec
returns-clause-spec c = rw (← c.self.view_is) (set-members (the_view c.self.inside) c.args.cond.0 c.args.members (search rules))
