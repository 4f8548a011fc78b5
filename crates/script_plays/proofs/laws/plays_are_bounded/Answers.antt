use Rattle.script_plays.proofs.Bounded.{plays_are_bounded}
use Rattle.script_plays.proofs.laws.plays_are_bounded.Goals as goal

pub returns : goal.returns
returns c = plays_are_bounded
