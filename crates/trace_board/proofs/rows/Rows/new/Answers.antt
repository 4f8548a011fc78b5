use Rattle.std.proofs.Common.{◌∙◌}
use Rattle.larch_actions.proofs.Shown.{shown_at-replicate}
use Rattle.trace_board.specs.Rows.{empty_row}
use Rattle.trace_board.proofs.rows.Rows.new.Goals as goal

pub returns : goal.returns
returns c = shown_at-replicate (λ x. x) empty_row 256 c.empty-row.result c.empty-row.ensures ∙ (λ i k. empty_row)
