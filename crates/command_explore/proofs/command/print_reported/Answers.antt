use Rattle.std.proofs.Common.{inr, refl}
use Rattle.command_endings.specs.Changes.{change_of}
use Rattle.command_explore.specs.Explore.{trace_of}
use Rattle.command_explore.proofs.Answering.{gets_stuck, no_output}
use Rattle.command_explore.proofs.command.print_reported.Goals as goal

pub returns-in-Ok : goal.returns-in-Ok
returns-in-Ok g c =
    let l = c.args.script.now.layout in
    let xs = c.args.script.now.lines in
    (trace_of l c.args.stuck.now, c.args.text.now, gets_stuck l xs c.args.stuck.now c.args.text.now c.requires.stuck c.in-Ok.ensures.reads c.requires.text, c.in-Ok.ensures.ok, c.say.ensures)

pub returns-in-Err : goal.returns-in-Err
returns-in-Err g c =
    let l = c.args.script.now.layout in
    let xs = c.args.script.now.lines in
    let out = change_of g.O.Sink.held g.O.Sink.faults c.args.out.now c.print_trace.new.out in
    let notes = change_of g.N.Sink.held g.N.Sink.faults c.args.notes.now c.ends.new.notes in
    no_output c.args.limit l xs out notes (trace_of l c.args.stuck.now) c.ends.result c.ends.ensures.status
    (inr (c.args.text.now, gets_stuck l xs c.args.stuck.now c.args.text.now c.requires.stuck c.in-Err.ensures.reads c.requires.text)) (c.in-Err.ensures.cause.failed, c.in-Err.ensures.err) c.ends.ensures.notes
