use Rattle.script_search.specs.Keys.{read_available}
use Rattle.script_search.proofs.Unpacked.{HasRead}
use Rattle.script_search.proofs.unpack.all_available.Given as goal

abbrev pub invariant-loop-k : goal.invariant-loop-k
invariant-loop-k l = HasRead read_available l.count l.bytes l.k l.all.items l.rest
