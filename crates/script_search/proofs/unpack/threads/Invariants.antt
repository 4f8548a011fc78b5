use Rattle.script_search.specs.Keys.{read_thread}
use Rattle.script_search.proofs.Unpacked.{HasRead}
use Rattle.script_search.proofs.unpack.threads.Given as goal

abbrev pub invariant-loop-k : goal.invariant-loop-k
invariant-loop-k l = HasRead read_thread l.count l.bytes l.k l.threads.items l.rest
