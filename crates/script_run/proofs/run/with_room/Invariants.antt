use Rattle.std.proofs.Common.{◌≡◌, length}
use Rattle.script_run.specs.Playing.{StayFirst}
use Rattle.script_run.proofs.run.with_room.Given as goal

abbrev pub invariant-loop-at : goal.invariant-loop-at
invariant-loop-at l = record {
  count : length l.threads.items ≡ length l.fn.threads.items;
  first : StayFirst l.fn.threads.items l.threads.items;
}
