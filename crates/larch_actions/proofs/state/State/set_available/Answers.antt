use Rattle.std.proofs.Common.{rules}
use Rattle.larch_actions.proofs.Shown.{set-available}
use Rattle.larch_actions.specs.contracts.state.State.{the_view}
use Rattle.larch_actions.proofs.state.State.set_available.Goals as goal

pub returns-clause-spec : goal.returns-clause-spec
returns-clause-spec c = rw (← c.self.view_is) (set-available (the_view c.self.inside) c.args.sem.0 c.args.available (search rules))
