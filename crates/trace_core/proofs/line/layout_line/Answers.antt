use Rattle.trace_core.proofs.Ways.{counts_from}
use Rattle.trace_core.proofs.line.layout_line.Goals as goal

pub returns : goal.returns
returns c =
    rw (counts_from c.args.version c.args.bytes.now c.in-Ok.rest.now c.in-Ok-number.read.1.now c.in-Ok-number.read.0 c.in-Ok.ensures (rw c.most_threads.ensures at c.in-Ok-number.ensures)) c.last_counts.ensures
