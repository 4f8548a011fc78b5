use Rattle.std.proofs.Common.{rules}
use Rattle.larch_actions.proofs.state.State.fork.Goals as goal

pub returns : goal.returns
returns c = (
  (record { live = search rules; order = search rules; requires_met = search rules; when_met = search rules; choice_met = search rules }, c.set_life.ensures.spec),
  c.set_life.ensures.layout,
)
