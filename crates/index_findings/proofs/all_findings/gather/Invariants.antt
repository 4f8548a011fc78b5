use Rattle.std.proofs.Common.{◌≡◌, ◌++◌, length}
use Rattle.std.specs.List.{flat_map, list_any}
use Rattle.std.specs.Vec.Iter.{into_iter_items, into_iter_len}
use Rattle.index_findings.specs.Gathered.{first_fault}
use Rattle.index_findings.proofs.all_findings.gather.Given as goal

abbrev pub invariant-loop-found : goal.invariant-loop-found
invariant-loop-found l =
    record {
      whole : l.yielded ++ into_iter_items l.found-iterator ≡ into_iter_items l.initial.found-iterator;
      left : into_iter_len l.found-iterator ≡ length (into_iter_items l.found-iterator);
      visits : l.visits.items ≡ flat_map (λ f. f.visits.items) l.yielded;
      pieces : l.pieces.items ≡ flat_map (λ f. f.pieces.items) l.yielded;
      fault : l.fault ≡ first_fault l.yielded;
      lost : l.lost ≡ list_any (λ f. f.lost) l.yielded;
    }
