use Rattle.std.proofs.Common.{ap, ◌∙◌}
use Rattle.larch_actions.specs.Actions.{Spec, put}
use Rattle.larch_actions.specs.declared.event.Pending.TheVariants.{Nothing}
use Rattle.larch_actions.proofs.state.State.end_wait.Goals as goal

pub returns-clause-spec : goal.returns-clause-spec
returns-clause-spec c = c.set_pending.ensures.spec ∙ ap (λ (z : Spec). record z { pending = put z.pending c.args.t.0 Nothing }) c.set_holder.ensures.spec

pub set_pending-requires-clause-live : goal.set_pending-requires-clause-live
set_pending-requires-clause-live c = ap (λ (z : Spec). z.life c.args.t.0) c.set_holder.ensures.spec ∙ c.requires.live
