use Rattle.std.proofs.Common.{sym}
use Rattle.index_table.proofs.Among.{there_is, not_there}
use Rattle.index_table.proofs.paths.holds_path.Goals as goal

pub returns-in-Some : goal.returns-in-Some
returns-in-Some c = there_is c.args.paths.now.entries c.args.path.now _ c.in-Some.ensures.index

pub returns-in-None : goal.returns-in-None
returns-in-None c = not_there c.args.paths.now.entries c.args.path.now (sym c.in-None.ensures.index)
