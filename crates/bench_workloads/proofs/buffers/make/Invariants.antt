use Rattle.std.proofs.Common.{ℕ, ◌*◌, List}
use Rattle.bounded_buffer.specs.Parts.{unused}
use Rattle.bench_workloads.specs.Passing.{HasDone, IsRow}
use Rattle.bench_workloads.proofs.buffers.make.Given as goal

-- the first numbers of the row are in the buffer
abbrev pub invariant-loop-i : goal.invariant-loop-i
invariant-loop-i g l = (puts : List (ℕ × ℕ)) × HasDone l.shared l.initial.me.number (record { numbers = record unused { puts = puts }; ends = unused }) l.me × IsRow (l.initial.me.number * l.times) l.i puts
