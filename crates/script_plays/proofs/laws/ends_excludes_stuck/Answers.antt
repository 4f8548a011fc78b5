use Rattle.script_plays.proofs.Scened.{ends_excludes_stuck}
use Rattle.script_plays.proofs.laws.ends_excludes_stuck.Goals as goal

pub returns : goal.returns
returns c = ends_excludes_stuck
