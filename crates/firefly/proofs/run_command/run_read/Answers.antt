use Rattle.std.proofs.Common.{inl, inr, refl, subst, List, ℕ}
use Rattle.trace_core.specs.Text.{ReadsAs, trace_text}
use Rattle.trace_core.specs.Whole.{numbered}
use Rattle.command_endings.specs.Changes.{change_of}
use Rattle.command_endings.specs.Printing.{Prints}
use Rattle.command_endings.specs.declared.status.Status.TheVariants.{Done}
use Rattle.larch_actions.specs.declared.event.Event.{Event}
use Rattle.script_text.specs.Visited.{AreVisited}
use Rattle.firefly.proofs.Ran.{is_trace, same_some}
use Rattle.firefly.proofs.run_command.run_read.Goals as goal

pub returns-in-Ok : goal.returns-in-Ok
returns-in-Ok g c =
    let o = c.in-Ok.ensures in
    let w = o.trace in
    let closed = c.in-Ok.closed in
    let visited = subst (λ (h : List Event). AreVisited c.args.script.now.layout c.args.script.now.lines h) (same_some closed.trace o.visits.0 w.0 o.visits.1 w.1) o.visits.2 in
    let bytes = trace_text closed.layout w.0 (numbered 0 closed.values) in
    let out = change_of g.O.Sink.held g.O.Sink.faults c.args.out.now c.print_trace-status.new.out in
    let notes = change_of g.N.Sink.held g.N.Sink.faults c.args.notes.now c.print_trace-status.new.notes in
    let reads = subst (λ (v : List ℕ). ReadsAs (trace_text closed.layout w.0 (numbered 0 v)) closed.layout w.0 (numbered 0 v)) c.values.ensures (c.print_trace-status.ensures.reads w.0 w.1) in
    let printed = subst (λ (v : List ℕ). Prints (trace_text closed.layout w.0 (numbered 0 v)) Done out notes c.print_trace-status.result) c.values.ensures (c.print_trace-status.ensures.printed w.0 w.1) in
    inl (
      bytes,
      is_trace closed.layout c.args.script.now.layout c.args.script.now.lines w.0 closed.values bytes o.layout o.count o.values reads w.2 w.4 visited,
      printed,
    )

pub returns-in-Err : goal.returns-in-Err
returns-in-Err g c = inr (c.ends.ensures.status, (refl, refl), c.ends.ensures.notes)
