use Rattle.std.proofs.Common.{◌≡◌, take}
use Rattle.walker.proofs.Children.{paths_as}
use Rattle.walker.proofs.listing.children_of.Given as goal

abbrev pub invariant-loop-entry : goal.invariant-loop-entry
invariant-loop-entry l = l.paths.items ≡ paths_as l.dir l.kind (take l.entry-index l.entries.items)
