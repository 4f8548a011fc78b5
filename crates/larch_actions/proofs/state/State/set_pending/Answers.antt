use Rattle.std.proofs.Common.{rules}
use Rattle.larch_actions.proofs.Shown.{set-pending}
use Rattle.larch_actions.specs.contracts.state.State.{the_view}
use Rattle.larch_actions.proofs.state.State.set_pending.Goals as goal

pub returns-clause-spec : goal.returns-clause-spec
returns-clause-spec c = rw (← c.self.view_is) (rw c.live_state.ensures (set-pending (the_view c.self.inside) c.args.t.0 (search rules) c.args.what (search rules)))
