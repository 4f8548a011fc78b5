use Rattle.script_plays.proofs.Reduced.{stuck_plays_are_reduced}
use Rattle.script_plays.proofs.laws.stuck_plays_are_reduced.Goals as goal

pub returns : goal.returns
returns c = stuck_plays_are_reduced
