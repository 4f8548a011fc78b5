use Rattle.script_search.specs.Keys.{read_holder}
use Rattle.script_search.proofs.Unpacked.{HasRead}
use Rattle.script_search.proofs.unpack.holders.Given as goal

abbrev pub invariant-loop-k : goal.invariant-loop-k
invariant-loop-k l = HasRead read_holder l.count l.bytes l.k l.holders.items l.rest
