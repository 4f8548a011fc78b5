use Rattle.word_index.proofs.WordLists.{Lists}
use Rattle.word_index.proofs.table.list_into.Given as goal

abbrev pub invariant-loop-at : goal.invariant-loop-at
invariant-loop-at l = Lists l.words l.links l.at l.texts l.places
