use Rattle.std.proofs.Common.{◌≡◌, length}
use Rattle.std.specs.Vec.Iter.{into_iter_items, into_iter_len}
use Rattle.job_pool.specs.Batches.{filled}
use Rattle.job_pool.proofs.places.place_list.Given as goal

abbrev pub invariant-loop-item : goal.invariant-loop-item
invariant-loop-item g l =
    record {
      left : into_iter_len l.item-iterator ≡ length (into_iter_items l.item-iterator);
      same : filled (into_iter_items l.item-iterator) l.places ≡ filled (into_iter_items l.initial.item-iterator) l.initial.places;
    }
