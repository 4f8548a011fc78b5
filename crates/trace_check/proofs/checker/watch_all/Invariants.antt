use Rattle.std.proofs.Common.{◌≡◌, ◌≤◌}
use Rattle.trace_core.specs.Reader.{standing}
use Rattle.trace_check.proofs.Watched.{IsWatching}
use Rattle.trace_check.proofs.checker.watch_all.Given as goal

abbrev pub invariant-loop-event : goal.invariant-loop-event
invariant-loop-event g l =
    let first = standing g.I.Source.left l.fn.reader in
    record {
      watching : IsWatching g.W.Watch.keeps first.room first.rest (g.I.Source.faults l.fn.reader.input.now) (standing g.I.Source.left l.reader) (g.I.Source.faults l.reader.input.now) l.state l.events l.fn.watcher l.layout l.watcher;
      same_input : l.reader.input.ghost_name ≡ l.fn.reader.input.ghost_name;
      unfailed : g.I.Source.faults l.reader.input.now ≡ g.I.Source.faults l.fn.reader.input.now;
      later : g.I.Source.faults l.fn.reader.input.now ≤ g.I.Source.faults l.reader.input.now;
    }

abbrev pub decreases-loop-event : goal.decreases-loop-event
decreases-loop-event g l = (standing g.I.Source.left l.reader).room
