use Rattle.std.proofs.Common.{◌≡◌, ◌≤◌, ◌+◌, ◌++◌, length, map, vec_len, vec_capacity, Some}
use Rattle.std.specs.Vec.Iter.{into_iter_items, into_iter_len}
use Rattle.std.specs.List.{AllByRecursion}
use Rattle.job_pool.specs.declared.job.Work.TheVariants.{Value}
use Rattle.job_pool.specs.Slots.{HasValue}
use Rattle.job_pool.proofs.pool.split.Given as goal

abbrev pub invariant-loop-slot : goal.invariant-loop-slot
invariant-loop-slot g l =
    record {
      whole : l.yielded ++ into_iter_items l.slot-iterator ≡ into_iter_items l.initial.slot-iterator;
      left : into_iter_len l.slot-iterator ≡ length (into_iter_items l.slot-iterator);
      room : vec_len l.back + into_iter_len l.slot-iterator ≤ vec_capacity l.back;
      space : vec_len l.values + into_iter_len l.slot-iterator ≤ vec_capacity l.values;
      jobs : l.back.items ≡ map (λ s. s.job) l.yielded;
      gave : AllByRecursion HasValue l.yielded → map (λ s. s.answer) l.yielded ≡ map (λ v. Some (Value v)) l.values.items;
    }
