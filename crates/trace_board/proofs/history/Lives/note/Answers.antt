use Rattle.std.proofs.Common.{ap, sym, ◌∙◌}
use Rattle.trace_board.specs.History.{changed, begun_by, ended_by, entry_of}
use Rattle.trace_board.proofs.history.Lives.note.Goals as goal

pub returns-in-Begins-clause-born : goal.returns-in-Begins-clause-born
returns-in-Begins-clause-born c = c.note.ensures ∙ ap (λ t. changed (begun_by t) c.args.by (entry_of c.args.self.now.born)) (sym c.in-Begins.is)

pub returns-in-Ends-clause-over : goal.returns-in-Ends-clause-over
returns-in-Ends-clause-over c = c.note-in-Ends.ensures ∙ ap (λ t. changed (ended_by t) c.args.by (entry_of c.args.self.now.over)) (sym c.in-Ends.is)
