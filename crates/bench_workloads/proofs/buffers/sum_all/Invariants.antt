use Rattle.std.proofs.Common.{◌≡◌, ℕ, ◌%◌, ◌^◌, List}
use Rattle.bounded_buffer.specs.Parts.{unused}
use Rattle.bench_workloads.specs.Passing.{HasDone, items_sum}
use Rattle.bench_workloads.proofs.buffers.sum_all.Given as goal

-- the sum so far
abbrev pub invariant-loop : goal.invariant-loop
invariant-loop g l = (takes : List (ℕ × ℕ)) × HasDone l.shared l.initial.me.number (record { numbers = record unused { takes = takes }; ends = unused }) l.me
    × (l.sum ≡ items_sum takes % 2 ^ 64)
