use Rattle.std.proofs.Common.{◌≡◌, ◌++◌, [], length, reverse}
use Rattle.std.specs.Vec.Iter.{into_iter_items, into_iter_len}
use Rattle.job_pool.specs.Batches.{numbered}
use Rattle.job_pool.specs.Working.{HasMoved}
use Rattle.job_pool.proofs.share.put_all.Given as goal

abbrev pub invariant-loop-batch : goal.invariant-loop-batch
invariant-loop-batch g l =
    record {
      whole : l.yielded ++ into_iter_items l.batch-iterator ≡ into_iter_items l.initial.batch-iterator;
      left : into_iter_len l.batch-iterator ≡ length (into_iter_items l.batch-iterator);
      count : l.place ≡ length l.yielded;
      moved : HasMoved l.p (reverse (numbered 0 l.yielded)) [] l.initial.me l.me;
    }
