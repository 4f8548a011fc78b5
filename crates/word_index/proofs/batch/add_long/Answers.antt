use Rattle.std.proofs.Common.{sym}
use Rattle.word_index.proofs.Batches.{batch_long}
use Rattle.word_index.proofs.batch.add_long.Goals as goal

pub invariant_of-result : goal.invariant_of-result
invariant_of-result c = rw (c.in-Ok.ensures.paths, c.in-Ok.ensures.skipped, c.in-Ok.ensures.lows)
    (batch_long c.batch.inside.paths c.batch.inside.skipped c.batch.inside.lows c.args.path.now c.batch.invariant (rw (sym c.batch.view_is) at c.requires))
