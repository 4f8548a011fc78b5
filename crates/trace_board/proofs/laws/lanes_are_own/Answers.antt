use Rattle.trace_board.proofs.Lanes as lanes
use Rattle.trace_board.proofs.laws.lanes_are_own.Goals as goal

pub returns : goal.returns
returns c = lanes.lanes_are_own
