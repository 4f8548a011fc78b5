use Rattle.walker.proofs.Lookups.{unlisted_some, unlisted_none}
use Rattle.walker.proofs.found.has_unlisted.Goals as goal

pub returns-in-Some : goal.returns-in-Some
returns-in-Some c = unlisted_some c.args.dirs.now.entries c.args.dir.now c.in-Some.listed.now c.requires c.in-Some.ensures.value

pub returns-in-None : goal.returns-in-None
returns-in-None c = unlisted_none c.args.dirs.now.entries c.args.dir.now c.requires c.in-None.ensures.value
