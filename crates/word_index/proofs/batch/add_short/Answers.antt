use Rattle.std.proofs.Common.{◌<◌, ◌+◌, ◌^◌, map, length, sym, arith}
use Rattle.std.proofs.lemmas.List.{length-map}
use Rattle.word_index.specs.Words.{lower}
use Rattle.word_index.proofs.Batches.{batch_short}
use Rattle.word_index.proofs.batch.add_short.Goals as goal

pub invariant_of-result : goal.invariant_of-result
invariant_of-result c =
    let short : length (map lower c.args.bytes.now) + 1 < 2 ^ 32 = omega (arith, length-map c.args.bytes.now lower, c.in-Ok.ensures.short) in
    rw (c.in-Ok.ensures.paths, c.in-Ok.ensures.lows)
    (batch_short c.batch.inside.paths c.batch.inside.skipped c.batch.inside.lows c.args.path.now c.batch.invariant (rw (sym c.batch.view_is) at c.requires) (map lower c.args.bytes.now) short)
