use Rattle.std.proofs.Common.{◌+◌, ◌-◌, length}
use Rattle.word_index.proofs.Tables.{Side, TablesJoined}
use Rattle.word_index.proofs.merges.join_rows.Given as goal

abbrev pub invariant-loop-i : goal.invariant-loop-i
invariant-loop-i l =
    let a : Side = record { paths = l.a-inside.paths; words = l.a-inside.words; rows = l.a-inside.places; numbers = l.paths.of_a.items } in
    let b : Side = record { paths = l.b-inside.paths; words = l.b-inside.words; rows = l.b-inside.places; numbers = l.paths.of_b.items } in
    TablesJoined l.paths.all a b l.i l.j l.words l.places

abbrev pub decreases-loop-i : goal.decreases-loop-i
decreases-loop-i l = length l.a-inside.words + length l.b-inside.words - (l.i + l.j)
