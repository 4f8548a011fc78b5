use Rattle.std.proofs.Common.{◌≡◌, ◌++◌, map, All}
use Rattle.firefly_outside.specs.Trees.{IsName}
use Rattle.firefly_outside.proofs.ListLemmas.{entry_of}
use Rattle.firefly_outside.proofs.names.entries_of.Given as goal

abbrev pub invariant-loop-name : goal.invariant-loop-name
invariant-loop-name l = record {
  order : l.yielded ++ l.name-iterator ≡ l.fn.names.entries;
  entries : l.entries.items ≡ map entry_of l.yielded;
  names : All (λ e. IsName e.name) l.entries.items;
}
