use Rattle.std.proofs.Common.{◌*◌, ◌≤◌}
use Rattle.script_run.proofs.run.own_events.Given as goal

abbrev pub invariant-loop-line : goal.invariant-loop-line
invariant-loop-line l = l.events ≤ 2 * l.line-index
