use Rattle.std.proofs.Common.{arith}
use Rattle.index_text.proofs.Bytes.{prefix_long}
use Rattle.index_text.proofs.key.begins.Goals as goal

pub returns-then-other-one : goal.returns-then-other-one
returns-then-other-one c = prefix_long c.args.one.now c.args.other.now (omega arith)
