use Rattle.script_plays.proofs.Scened.{beginnings_are_plays}
use Rattle.script_plays.proofs.laws.beginnings_are_plays.Goals as goal

pub returns : goal.returns
returns c = beginnings_are_plays
