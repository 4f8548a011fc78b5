use Rattle.trace_board.proofs.Causing as causing
use Rattle.trace_board.proofs.laws.forks_are_births.Goals as goal

pub returns : goal.returns
returns c = causing.forks_are_births
