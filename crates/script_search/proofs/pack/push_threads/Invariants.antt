use Rattle.std.proofs.Common.{◌≡◌, ◌++◌, take}
use Rattle.std.specs.List.{flat_map}
use Rattle.script_search.specs.Keys.{thread_cells}
use Rattle.script_search.proofs.pack.push_threads.Given as goal

abbrev pub invariant-loop-thread : goal.invariant-loop-thread
invariant-loop-thread l = l.key.items ≡ l.initial.key.items ++ flat_map thread_cells (take l.thread-index l.threads)
