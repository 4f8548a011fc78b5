use Rattle.index_table.specs.Paths.{values}
use Rattle.index_table.proofs.Ranks.{AreFilled}
use Rattle.index_table.proofs.paths.fill_ranks.Given as goal

abbrev pub invariant-loop-at : goal.invariant-loop-at
invariant-loop-at l = AreFilled (values l.paths.entries) l.ranks l.at
