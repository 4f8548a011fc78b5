use Rattle.trace_board.proofs.Latest as latest
use Rattle.trace_board.proofs.laws.runs_are_seen.Goals as goal

pub returns : goal.returns
returns c = latest.runs_are_seen
