use Rattle.indexer.specs.Gets.{Makes, nothing}
use Rattle.indexer.proofs.run.early_end.cancel.Given as goal

abbrev pub invariant-loop-t : goal.invariant-loop-t
invariant-loop-t g l = Makes l.p nothing l.fn.me l.me
