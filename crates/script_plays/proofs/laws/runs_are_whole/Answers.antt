use Rattle.script_plays.proofs.Runs.{runs_are_whole}
use Rattle.script_plays.proofs.laws.runs_are_whole.Goals as goal

pub returns : goal.returns
returns c = runs_are_whole
