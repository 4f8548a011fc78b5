use Rattle.std.proofs.Common.{Bool, cond, false, rules, ap, ◌∙◌}
use Rattle.larch_actions.specs.Actions.{put}
use Rattle.script_search.specs.Boards.{moment_of, spec_of}
use Rattle.script_search.proofs.board.Board.broadcast.Goals as goal

pub returns : goal.returns
returns c =
    let s = spec_of (moment_of c.args.self.now) in (
      (
        record { live = search rules; order = search rules; requires_met = search rules; when_met = search rules; choice_met = search rules },
        c.leave_only.ensures.spec ∙ ap (λ f. record s { members = put s.members c.args.cond f }) (λ k t. ap (λ (b : Bool). cond b (s.members c.args.cond t) false) (c.empty.ensures.members t) k),
      ),
      c.leave_only.ensures.keeps,
    )
