use Rattle.script_plays.proofs.Scened.{plays_are_legal}
use Rattle.script_plays.proofs.laws.plays_are_legal.Goals as goal

pub returns : goal.returns
returns c = plays_are_legal
