use Rattle.trace_json.proofs.Turns as turns
use Rattle.trace_json.proofs.laws.mutexes_in_turn.Goals as goal

pub returns : goal.returns
returns c = turns.mutexes_in_turn
