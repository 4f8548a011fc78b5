use Rattle.std.proofs.Common.{◌≡◌, ◌++◌, take}
use Rattle.std.specs.List.{flat_map}
use Rattle.script_search.specs.Keys.{available_cells}
use Rattle.script_search.proofs.pack.push_available.Given as goal

abbrev pub invariant-loop-is_available : goal.invariant-loop-is_available
invariant-loop-is_available l = l.key.items ≡ l.initial.key.items ++ flat_map available_cells (take l.is_available-index l.available)
