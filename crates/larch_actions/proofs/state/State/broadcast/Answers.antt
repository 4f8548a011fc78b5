use Rattle.std.proofs.Common.{rules, ap, ◌∙◌}
use Rattle.larch_actions.specs.State.{spec_of}
use Rattle.larch_actions.specs.Actions.{put}
use Rattle.larch_actions.proofs.state.State.broadcast.Goals as goal

pub returns : goal.returns
returns c =
    let s = spec_of c.args.self.now in (
      (
        record { live = search rules; order = search rules; requires_met = search rules; when_met = search rules; choice_met = search rules },
        c.set_members.ensures.spec ∙ ap (λ f. record s { members = put s.members c.args.cond.0 f }) (λ k t. c.empty.ensures.members t k),
      ),
      c.set_members.ensures.layout,
    )
