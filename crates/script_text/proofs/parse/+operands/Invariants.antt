use Rattle.std.proofs.Common.{length}
use Rattle.script_text.proofs.parse.+operands.Given as goal

abbrev pub decreases-operands : goal.decreases-operands
decreases-operands l = length l.kinds.now
