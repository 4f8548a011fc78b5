use Rattle.std.proofs.Common.{◌≡◌, map}
use Rattle.std.specs.List.{range_with_len}
use Rattle.index_sample.specs.Listings.{sample_entry}
use Rattle.index_sample.proofs.entries.entries_from.Given as goal

abbrev pub invariant-loop-n : goal.invariant-loop-n
invariant-loop-n l = l.entries.items ≡ map (sample_entry l.kind) (range_with_len l.from l.n)
