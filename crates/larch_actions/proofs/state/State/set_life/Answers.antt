use Rattle.std.proofs.Common.{rules}
use Rattle.larch_actions.proofs.Shown.{set-life}
use Rattle.larch_actions.specs.contracts.state.State.{the_view}
use Rattle.larch_actions.proofs.state.State.set_life.Goals as goal

pub returns-clause-spec : goal.returns-clause-spec
returns-clause-spec c = rw (← c.self.view_is) (set-life (the_view c.self.inside) c.args.t.0 (search rules) c.idle.result c.args.life c.idle.ensures.life c.idle.ensures.pending (search rules))
