use Rattle.std.proofs.Common.{◌≡◌, ◌≤◌, length, take}
use Rattle.trace_core.specs.Reader.{standing}
use Rattle.trace_picture.specs.Shown.{drawn_of}
use Rattle.trace_picture.proofs.Ringing.{IsRinging}
use Rattle.trace_picture.proofs.draw.draw_all.Given as goal

abbrev pub invariant-loop-event : goal.invariant-loop-event
invariant-loop-event g l =
    let first = standing g.I.Source.left l.fn.reader in
    record {
      ringing : IsRinging first.room first.rest (g.I.Source.faults l.fn.reader.input.now) (standing g.I.Source.left l.reader) (g.I.Source.faults l.reader.input.now) l.state l.place l.view (g.O.Sink.held l.fn.out) (g.O.Sink.held l.out) (take l.at l.buf) (drawn_of l.drawing) l.kept l.view.ordered l.graph;
      laid : l.layout ≡ l.reader.progress.layout;
      within : l.at ≤ length l.buf;
      same_input : l.reader.input.ghost_name ≡ l.fn.reader.input.ghost_name;
      unfailed : g.I.Source.faults l.reader.input.now ≡ g.I.Source.faults l.fn.reader.input.now;
      later : g.I.Source.faults l.fn.reader.input.now ≤ g.I.Source.faults l.reader.input.now;
      sunk : g.O.Sink.faults l.fn.out ≤ g.O.Sink.faults l.out;
    }

abbrev pub decreases-loop-event : goal.decreases-loop-event
decreases-loop-event g l = (standing g.I.Source.left l.reader).room
