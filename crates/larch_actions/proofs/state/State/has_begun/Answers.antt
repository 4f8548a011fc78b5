use Rattle.std.proofs.Common.{rules}
use Rattle.larch_actions.proofs.Shown.{begun-shown}
use Rattle.larch_actions.specs.contracts.state.State.{the_view}
use Rattle.larch_actions.specs.declared.state.ThreadState.TheVariants as thread
use Rattle.larch_actions.proofs.state.State.has_begun.Goals as goal

pub returns : goal.returns
returns c = rw (← c.self.view_is) (begun-shown (the_view c.self.inside) c.args.t.0 (search rules) thread.Unborn c.args.what c.is_same.result (rw (← c.live_state.ensures) c.is_same.ensures))
