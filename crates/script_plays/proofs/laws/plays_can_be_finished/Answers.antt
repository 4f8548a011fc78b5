use Rattle.script_plays.proofs.Bounded.{plays_can_be_finished}
use Rattle.script_plays.proofs.laws.plays_can_be_finished.Goals as goal

pub returns : goal.returns
returns c = plays_can_be_finished
