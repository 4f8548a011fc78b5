use Rattle.index_rule.specs.declared.value.IndexValue.{IndexValue}
use Rattle.indexer.specs.Turns.{HasList, IsAs}
use Rattle.indexer.proofs.calls.dir_list.next_dir.Given as goal

abbrev pub invariant-loop : goal.invariant-loop
invariant-loop g l = (x : IndexValue) × HasList l.p l.fn.me x l.me × IsAs x l.dirs
