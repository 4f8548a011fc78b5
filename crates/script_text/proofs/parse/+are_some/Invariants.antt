use Rattle.std.proofs.Common.{length}
use Rattle.script_text.proofs.parse.+are_some.Given as goal

abbrev pub decreases-are_some : goal.decreases-are_some
decreases-are_some l = length l.kinds.now
