use Rattle.std.proofs.Common.{ap, ◌∙◌}
use Rattle.larch_actions.specs.Actions.{put}
use Rattle.trace_board.specs.Rows.{with_bar, row_of}
use Rattle.trace_board.proofs.rows.Rows.begin.Goals as goal

pub returns : goal.returns
returns c = c.put.ensures ∙ ap (put (row_of c.args.self.now) c.args.t) (c.with_bar-now.ensures ∙ ap (with_bar c.args.bar) c.at-was.ensures)
