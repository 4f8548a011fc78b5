use Rattle.trace_board.proofs.Causing as causing
use Rattle.trace_board.proofs.laws.arrows_are_causes.Goals as goal

pub returns : goal.returns
returns c = causing.arrows_are_causes
