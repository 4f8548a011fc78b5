use Rattle.trace_board.proofs.Holding as holding
use Rattle.trace_board.proofs.laws.bars_are_holds.Goals as goal

pub returns : goal.returns
returns c = holding.bars_are_holds
