use Rattle.std.proofs.Common.{List, rules, ap, subst, ◌∙◌}
use Rattle.script_search.specs.declared.board.Thread.{Thread}
use Rattle.script_search.specs.Thinned.{members_in}
use Rattle.larch_actions.specs.Sets.{in_set}
use Rattle.larch_actions.specs.Actions.{put, MayLeave}
use Rattle.script_search.specs.Boards.{moment_of, spec_of}
use Rattle.script_search.proofs.Rows.{left_of}
use Rattle.script_search.proofs.board.Board.signal.Goals as goal

pub returns : goal.returns
returns c =
    let s = spec_of (moment_of c.args.self.now) in
    let may = subst (λ (xs : List Thread). MayLeave (members_in xs c.args.cond) (in_set c.args.left.now)) c.as_slice.ensures.value (c.may_leave.ensures.0 (search rules)) in (
      (
        record { live = search rules; order = search rules; requires_met = search rules; when_met = search rules; choice_met = may },
        c.leave_only.ensures.spec ∙ ap (λ f. record s { members = put s.members c.args.cond f }) (left_of (s.members c.args.cond) (in_set c.args.left.now) may),
      ),
      c.leave_only.ensures.keeps,
    )
