use Rattle.std.proofs.Common.{◌≡◌, ◌++◌, take}
use Rattle.std.specs.List.{flat_map}
use Rattle.script_search.specs.Keys.{holder_cells}
use Rattle.script_search.proofs.pack.push_holders.Given as goal

abbrev pub invariant-loop-holder : goal.invariant-loop-holder
invariant-loop-holder l = l.key.items ≡ l.initial.key.items ++ flat_map holder_cells (take l.holder-index l.holders)
