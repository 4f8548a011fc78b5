use Rattle.std.proofs.Common.{rules, ℕ, Bool, subst, sym, refl}
use Rattle.larch_actions.specs.Sets.{in_set}
use Rattle.larch_actions.specs.Actions.{MayLeave}
use Rattle.larch_actions.proofs.Answered.{not_both}
use Rattle.larch_actions.proofs.state.State.signal.Goals as goal

pub returns : goal.returns
returns c = (
  (
    record {
      live = search rules;
      order = search rules;
      requires_met = search rules;
      when_met = search rules;
      choice_met = subst (λ (f : ℕ → Bool). MayLeave f (in_set c.args.left)) c.members_of.ensures (c.may_leave.ensures.sound (search rules));
    },
    c.set_members.ensures.spec,
  ),
  c.set_members.ensures.layout,
)

pub returns-then-not-may_leave : goal.returns-then-not-may_leave
returns-then-not-may_leave c = (
  (
    search rules,
    search rules,
    search rules,
    λ may. not_both c.may_leave.result (search rules) (c.may_leave.ensures.complete (subst (λ (f : ℕ → Bool). MayLeave f (in_set c.args.left)) (sym c.members_of.ensures) may)),
  ),
  refl,
)
