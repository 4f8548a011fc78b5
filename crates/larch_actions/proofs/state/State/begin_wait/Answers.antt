use Rattle.std.proofs.Common.{ap, ◌∙◌, true, cond, eqb}
use Rattle.larch_actions.specs.State.{spec_of}
use Rattle.larch_actions.specs.Actions.{Spec, put}
use Rattle.larch_actions.specs.Sets.{in_set}
use Rattle.larch_actions.proofs.Shown.{set-one}
use mathlib.Core.Option.{none}
use Rattle.larch_actions.proofs.state.State.begin_wait.Goals as goal

pub returns-clause-spec : goal.returns-clause-spec
returns-clause-spec c =
    let s = spec_of c.args.self.now in
    let more = set-one (s.members c.args.cond.0) (in_set c.insert.new.self) c.args.t.0 true (λ k. c.insert.ensures.members k ∙ ap (λ f. cond (eqb c.args.t.0 k) true (f k)) c.members_of-members.ensures) in
    c.set_pending.ensures.spec ∙ ap (λ (z : Spec). record z { pending = put z.pending c.args.t.0 c.args.what }) (c.set_holder.ensures.spec
    ∙ ap (λ (z : Spec). record z { holder = put z.holder c.args.mutex.0 none }) (c.set_members.ensures.spec
    ∙ ap (λ f. record s { members = put s.members c.args.cond.0 f }) more))

pub set_pending-requires-clause-live : goal.set_pending-requires-clause-live
set_pending-requires-clause-live c = ap (λ (z : Spec). z.life c.args.t.0) c.set_holder.ensures.spec ∙ (ap (λ (z : Spec). z.life c.args.t.0) c.set_members.ensures.spec ∙ c.requires.live)
