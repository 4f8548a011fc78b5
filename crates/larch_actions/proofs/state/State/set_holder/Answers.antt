use Rattle.std.proofs.Common.{rules}
use Rattle.larch_actions.proofs.Shown.{set-holder}
use Rattle.larch_actions.specs.contracts.state.State.{the_view}
use Rattle.larch_actions.proofs.state.State.set_holder.Goals as goal

pub returns-clause-spec : goal.returns-clause-spec
returns-clause-spec c = rw (← c.self.view_is) (set-holder (the_view c.self.inside) c.args.mutex.0 c.args.holder (search rules))
