use Rattle.std.proofs.Common.{◌≡◌, ◌+◌, ◌≤◌, ◌++◌, length, take, drop}
use Rattle.trace_core.proofs.Flowing.{Pending}
use Rattle.trace_picture.specs.Shown.{drawn_of}
use Rattle.trace_picture.specs.Keeping.{band_steps, drawn_over}
use Rattle.trace_picture.proofs.draw.draw_events.Given as goal

abbrev pub invariant-loop-i : goal.invariant-loop-i
invariant-loop-i g l =
    let es = take l.count l.kept in
    let d = drawn_of l.drawing in
    record {
      flows : Pending (g.O.Sink.held l.fn.out) (g.O.Sink.held l.out) (take l.last l.buf) (take l.at l.fn.buf ++ band_steps l.layout l.view l.start (drawn_of l.fn.drawing) es) (band_steps l.layout l.view (l.start + l.i) d (drop l.i es));
      kept_is : drawn_over l.layout l.view l.start (drawn_of l.fn.drawing) es ≡ drawn_over l.layout l.view (l.start + l.i) d (drop l.i es);
      inside : l.last ≤ length l.buf;
      long : length l.buf ≡ length l.fn.buf;
      sunk : g.O.Sink.faults l.fn.out ≤ g.O.Sink.faults l.out;
    }
