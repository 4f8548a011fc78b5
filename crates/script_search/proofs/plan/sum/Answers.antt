use Rattle.std.proofs.Common.{◌+◌, arith}
use Rattle.script_search.proofs.Planning.{no_line, total_more}
use Rattle.script_search.proofs.plan.sum.Goals as goal

pub overflow_add-sum : goal.overflow_add-sum
overflow_add-sum c = omega (arith, total_more c.args.lines.now c.loop-line.line-index c.args.mutex no_line c.loop-line-test.true, c.requires (c.loop-line.line-index + 1))

pub loop-line-preserved : goal.loop-line-preserved
loop-line-preserved c = omega (arith, total_more c.args.lines.now c.loop-line.line-index c.args.mutex no_line c.loop-line-test.true)
