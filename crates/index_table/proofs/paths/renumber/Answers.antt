use Rattle.std.proofs.Common.{arith, get_or}
use Rattle.std.proofs.lemmas.List.{get_or_default}
use Rattle.std.proofs.lemmas.List.Edits.{map_over_more}
use Rattle.index_table.proofs.paths.renumber.Goals as goal

pub loop-number-preserved : goal.loop-number-preserved
loop-number-preserved c =
    let old = get_or c.loop-number.numbers c.loop-number.number-index 0 in
    map_over_more (λ n. get_or c.args.ranks.now n 0) c.args.numbers.now c.loop-number.numbers c.loop-number.number-index old (omega arith) c.loop-number.invariant (get_or_default c.loop-number.numbers c.loop-number.number-index 0 old (omega arith))
