use Rattle.std.proofs.Common.{rules}
use Rattle.larch_actions.proofs.Shown.{life-shown}
use Rattle.larch_actions.specs.contracts.state.State.{the_view}
use Rattle.larch_actions.specs.declared.state.ThreadState.TheVariants as thread
use Rattle.larch_actions.specs.declared.event.Life.TheVariants.{Ended}
use Rattle.larch_actions.proofs.state.State.has_ended.Goals as goal

pub returns : goal.returns
returns c = rw (← c.self.view_is) (life-shown (the_view c.self.inside) c.args.t.0 (search rules) thread.Unborn Ended _ c.is_over.ensures)
