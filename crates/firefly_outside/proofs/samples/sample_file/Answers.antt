use Rattle.firefly_outside.proofs.SampleLines.{lines_more}
use Rattle.firefly_outside.proofs.samples.sample_file.Goals as goal

pub loop-line-preserved : goal.loop-line-preserved
loop-line-preserved c = lines_more c.args.seed c.args.file c.loop-line.line c.loop-line.bytes.items c.push_line.new.bytes.items c.loop-line.invariant c.in_ok-push_line.ensures
