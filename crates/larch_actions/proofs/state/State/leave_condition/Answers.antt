use Rattle.std.proofs.Common.{ap, ◌∙◌, false, cond, eqb}
use Rattle.larch_actions.specs.State.{spec_of}
use Rattle.larch_actions.specs.Actions.{put}
use Rattle.larch_actions.specs.Sets.{in_set}
use Rattle.larch_actions.proofs.Shown.{set-one}
use Rattle.larch_actions.proofs.state.State.leave_condition.Goals as goal

pub returns-clause-spec : goal.returns-clause-spec
returns-clause-spec c =
    let s = spec_of c.args.self.now in
    let less = set-one (s.members c.args.cond.0) (in_set c.remove.new.self) c.args.t.0 false (λ k. c.remove.ensures.members k ∙ ap (λ f. cond (eqb c.args.t.0 k) false (f k)) c.members_of-members.ensures) in
    c.set_members.ensures.spec ∙ ap (λ f. record s { members = put s.members c.args.cond.0 f }) less
