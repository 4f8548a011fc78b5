use Rattle.firefly.proofs.Accepted.{runs_are_whole_plays}
use Rattle.firefly.proofs.laws.runs_are_whole_plays.Goals as goal

pub returns : goal.returns
returns c = runs_are_whole_plays
