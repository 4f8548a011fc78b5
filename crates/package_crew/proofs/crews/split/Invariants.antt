use Rattle.std.proofs.Common.{◌≡◌, ◌≤◌, ◌+◌, ◌++◌, length, map, vec_len, vec_capacity}
use Rattle.std.specs.Vec.Iter.{into_iter_items, into_iter_len}
use Rattle.package_crew.proofs.crews.split.Given as goal

abbrev pub invariant-loop-pair : goal.invariant-loop-pair
invariant-loop-pair g l =
    record {
      whole : l.yielded ++ into_iter_items l.pair-iterator ≡ into_iter_items l.initial.pair-iterator;
      left : into_iter_len l.pair-iterator ≡ length (into_iter_items l.pair-iterator);
      room : vec_len l.firsts + into_iter_len l.pair-iterator ≤ vec_capacity l.firsts;
      space : vec_len l.seconds + into_iter_len l.pair-iterator ≤ vec_capacity l.seconds;
      firsts : l.firsts.items ≡ map (λ p. p.0) l.yielded;
      seconds : l.seconds.items ≡ map (λ p. p.1) l.yielded;
    }
