use Rattle.script_plays.proofs.Reduced.{reduced_plays_decide}
use Rattle.script_plays.proofs.laws.reduced_plays_decide.Goals as goal

pub returns : goal.returns
returns c = reduced_plays_decide
