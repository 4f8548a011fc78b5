use Rattle.std.proofs.Common.{◌∙◌}
use Rattle.script_search.proofs.Planning.{no_line, forked_more}
use Rattle.script_search.proofs.born.is_forked.Goals as goal

pub loop-line-preserved : goal.loop-line-preserved
loop-line-preserved c = c.forked_by-forked.ensures ∙ forked_more c.args.lines.now c.loop-line.line-index c.args.t no_line c.loop-line.forked c.loop-line-test.true c.loop-line.invariant
