use Rattle.std.proofs.Common.{None, refl}
use Rattle.larch_actions.proofs.Shown.{shown_at-replicate}
use Rattle.trace_board.proofs.history.Table.new.Goals as goal

pub returns : goal.returns
returns c = shown_at-replicate (λ x. x) None 256 None refl
