use Rattle.std.proofs.Common.{true, ap, sym, ◌∙◌}
use Rattle.larch_actions.specs.Actions.{put}
use Rattle.trace_board.specs.History.{entry_of}
use Rattle.trace_board.specs.Holds.{hold_to, longer, lengthened, longest_of}
use Rattle.trace_board.proofs.holds.Longest.note.Goals as goal

pub returns-in-Ends : goal.returns-in-Ends
returns-in-Ends c =
    let f = longest_of c.args.self.now in
    let m = c.in-Ends.m in
    let more = c.hold_to.ensures ∙ ap (hold_to true c.args.place) c.at.ensures in
    let now = c.longer-now.ensures ∙ (λ i. longer (c.at-was.ensures i) (more i)) in
    c.put.ensures ∙ ap (put f m) now ∙ ap (λ t. lengthened t c.args.place (entry_of c.args.held.now) f) (sym c.in-Ends.is)
