use Rattle.std.proofs.Common.{arith, get_or}
use Rattle.std.proofs.lemmas.List.{get_or_default}
use Rattle.std.proofs.lemmas.List.Edits.{map_over_more}
use Rattle.word_index.specs.Words.{lower}
use Rattle.word_index.proofs.strings.make_lower.Goals as goal

pub loop-b-preserved : goal.loop-b-preserved
loop-b-preserved c =
    let old = get_or c.loop-b.text c.loop-b.b-index 0 in
    rw c.lower_byte.ensures (map_over_more lower c.args.text.now c.loop-b.text c.loop-b.b-index old (omega arith) c.loop-b.invariant (get_or_default c.loop-b.text c.loop-b.b-index 0 old (omega arith)))
