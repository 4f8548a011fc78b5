use Rattle.trace_board.proofs.Longest as longest
use Rattle.trace_board.proofs.laws.holds_are_longest.Goals as goal

pub returns : goal.returns
returns c = longest.holds_are_longest
