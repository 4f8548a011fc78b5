use Rattle.std.proofs.Common.{rules, ap, ◌∙◌, false}
use Rattle.larch_actions.specs.Actions.{Spec, put}
use mathlib.Core.Option.{some}
use Rattle.larch_actions.specs.declared.event.Pending.TheVariants.{Nothing}
use Rattle.larch_actions.proofs.state.State.alert_raise.Goals as goal

pub returns : goal.returns
returns c = (
  (
    record { live = search rules; order = search rules; requires_met = search rules; when_met = search rules; choice_met = search rules },
    c.end_wait.ensures.spec ∙ ap (λ (z : Spec). record z { holder = put z.holder c.args.mutex.0 (some c.args.t.0); pending = put z.pending c.args.t.0 Nothing }) (c.clear_alert.ensures.spec
        ∙ ap (λ (z : Spec). record z { alerts = put z.alerts c.args.t.0 false }) c.leave_condition.ensures.spec),
  ),
  c.end_wait.ensures.layout ∙ (c.clear_alert.ensures.layout ∙ c.leave_condition.ensures.layout),
)

pub end_wait-requires-clause-live : goal.end_wait-requires-clause-live
end_wait-requires-clause-live c = ap (λ (z : Spec). z.life c.args.t.0) c.clear_alert.ensures.spec ∙ (ap (λ (z : Spec). z.life c.args.t.0) c.leave_condition.ensures.spec ∙ search rules)
