use Rattle.std.proofs.Common.{rules}
use Rattle.larch_actions.proofs.Shown.{life-shown, idle-shown}
use Rattle.larch_actions.specs.contracts.state.State.{the_view}
use Rattle.larch_actions.specs.declared.state.ThreadState.TheVariants as thread
use Rattle.larch_actions.specs.declared.event.Life.TheVariants.{Unborn}
use Rattle.larch_actions.proofs.state.State.is_unborn.Goals as goal

pub returns-clause-unborn : goal.returns-clause-unborn
returns-clause-unborn c = rw (← c.self.view_is) (life-shown (the_view c.self.inside) c.args.t.0 (search rules) thread.Unborn Unborn _ c.waits_for_its_fork.ensures.unborn)

pub returns-clause-idle : goal.returns-clause-idle
returns-clause-idle c = rw (← c.self.view_is) (idle-shown (the_view c.self.inside) c.args.t.0 (search rules) thread.Unborn _ c.waits_for_its_fork.ensures.idle)
