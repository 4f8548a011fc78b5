use Rattle.std.proofs.Common.{◌≡◌, ℕ}
use Rattle.bench_workloads.specs.Reading.{HasCounted}
use Rattle.bench_workloads.proofs.readers.play.Given as goal

abbrev pub invariant-loop-i : goal.invariant-loop-i
invariant-loop-i g l = HasCounted l.shared l.readers l._i l.initial.me.number l.writes l.me
