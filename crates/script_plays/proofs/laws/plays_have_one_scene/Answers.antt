use Rattle.script_plays.proofs.Scened.{plays_have_one_scene}
use Rattle.script_plays.proofs.laws.plays_have_one_scene.Goals as goal

pub returns : goal.returns
returns c = plays_have_one_scene
