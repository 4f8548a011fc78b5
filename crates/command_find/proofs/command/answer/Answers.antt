use Rattle.std.proofs.Common.{refl}
use Rattle.command_endings.specs.Changes.{change_of}
use Rattle.index_find.specs.Postfix.{tree_of}
use Rattle.command_find.proofs.Ended.{found, refused}
use Rattle.command_find.proofs.command.answer.Goals as goal

pub returns-in-Ok-clause-ends : goal.returns-in-Ok-clause-ends
returns-in-Ok-clause-ends g c =
    let input = change_of g.I.Source.left g.I.Source.faults c.args.input.now c.find_within.new.input in
    let out = change_of g.O.Sink.held g.O.Sink.faults c.args.out.now c.print_paths.new.out in
    let notes = change_of g.N.Sink.held g.N.Sink.faults c.args.notes.now c.print_paths.new.notes in
    found c.args.most (tree_of c.args.query) c.in-Ok.paths.items input out notes c.print_paths.result c.in-Ok.ensures.found (rw (← c.as_slice.ensures.value) c.print_paths.ensures)

pub returns-in-Err-clause-ends : goal.returns-in-Err-clause-ends
returns-in-Err-clause-ends g c =
    let input = change_of g.I.Source.left g.I.Source.faults c.args.input.now c.find_within.new.input in
    let out = change_of g.O.Sink.held g.O.Sink.faults c.args.out.now c.args.out.now in
    let notes = change_of g.N.Sink.held g.N.Sink.faults c.args.notes.now c.ends_unread.new.notes in
    refused c.args.most (tree_of c.args.query) input out notes c.ends_unread.result c.in-Err.fault c.in-Err.ensures.fault (refl, refl) c.ends_unread.ensures
