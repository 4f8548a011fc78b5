use Rattle.std.proofs.Common.{rules, None}
use Rattle.larch_actions.proofs.Shown.{shown_at-get_or}
use Rattle.larch_actions.specs.State.{holder_of}
use mathlib.Core.Option.{none}
use Rattle.larch_actions.proofs.state.State.is_holder.Goals as goal

pub returns : goal.returns
returns c = rw (← c.self.view_is) (rw (shown_at-get_or holder_of none c.self.inside.holders c.args.mutex.0 None (search rules)) c.is_thread.ensures)
