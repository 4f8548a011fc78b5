use Rattle.trace_board.proofs.Causing as causing
use Rattle.trace_board.proofs.laws.rows_are_lives.Goals as goal

pub returns : goal.returns
returns c = causing.rows_are_lives
