use Rattle.std.proofs.Common.{refl, ◌∙◌}
use Rattle.command_endings.specs.Changes.{change_of}
use Rattle.command_explore.proofs.Answering.{no_memory}
use Rattle.command_explore.proofs.command.print_stuck.Goals as goal

pub print_reported-requires-clause-text : goal.print_reported-requires-clause-text
print_reported-requires-clause-text g c = c.as_str.ensures.value ∙ c.in-Ok.ensures

pub returns-in-Err : goal.returns-in-Err
returns-in-Err g c =
    let out = change_of g.O.Sink.held g.O.Sink.faults c.args.out.now c.args.out.now in
    let notes = change_of g.N.Sink.held g.N.Sink.faults c.args.notes.now c.ends.new.notes in
    no_memory c.args.limit c.args.script.now.layout c.args.script.now.lines out notes c.ends.result c.ends.ensures.status (refl, refl) c.ends.ensures.notes
