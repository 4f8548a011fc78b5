use Rattle.std.proofs.Common.{◌≡◌, ◌≤◌, vec_capacity, replicate, None}
use Rattle.job_pool.proofs.opening.rooms_for.Given as goal

abbrev pub invariant-loop-made : goal.invariant-loop-made
invariant-loop-made g l =
    record {
      none : l.places.items ≡ replicate l.made None;
      wide : l.many ≤ vec_capacity l.places;
    }
