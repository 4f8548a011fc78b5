use Rattle.std.proofs.Common.{false}
use Rattle.larch_actions.proofs.Shown.{set-alerts}
use Rattle.larch_actions.specs.contracts.state.State.{the_view}
use Rattle.larch_actions.proofs.state.State.clear_alert.Goals as goal

pub returns-clause-spec : goal.returns-clause-spec
returns-clause-spec c = rw (← c.self.view_is) (set-alerts (the_view c.self.inside) c.remove.new.self c.args.t.0 false c.remove.ensures.members)
