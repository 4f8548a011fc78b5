use Rattle.std.proofs.Common.{true}
use Rattle.larch_actions.proofs.Shown.{set-alerts}
use Rattle.larch_actions.specs.contracts.state.State.{the_view}
use Rattle.larch_actions.proofs.state.State.set_alert.Goals as goal

pub returns-clause-spec : goal.returns-clause-spec
returns-clause-spec c = rw (← c.self.view_is) (set-alerts (the_view c.self.inside) c.insert.new.self c.args.t.0 true c.insert.ensures.members)
