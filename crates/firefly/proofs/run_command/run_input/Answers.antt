use Rattle.std.proofs.Common.{refl}
use Rattle.command_endings.specs.Changes.{change_of}
use Rattle.command_script.proofs.Decided.{read_decides, refused_decides}
use Rattle.firefly.specs.RunCommand.{IsOwn}
use Rattle.firefly.proofs.Ran.{ran_own, refused_answers}
use Rattle.firefly.proofs.run_command.run_input.Goals as goal

pub returns-in-Ok-clause-exact : goal.returns-in-Ok-clause-exact
returns-in-Ok-clause-exact g c =
    let input = change_of g.I.Source.left g.I.Source.faults c.args.input.now c.read_script.new.input in
    let out = change_of g.O.Sink.held g.O.Sink.faults c.args.out.now c.run_read.new.out in
    let notes = change_of g.N.Sink.held g.N.Sink.faults c.args.notes.now c.run_read.new.notes in
    let s = c.in-Ok.ensures in
    read_decides (λ z. z) IsOwn input c.in-Ok.script.layout c.in-Ok.script.lines c.run_read.result (record { rules = s.rules; few = s.few; whole = s.script; end = s.end })
    (ran_own c.in-Ok.script.layout c.in-Ok.script.lines out notes c.run_read.result c.run_read.ensures)

pub returns-in-Err-clause-answers : goal.returns-in-Err-clause-answers
returns-in-Err-clause-answers g c =
    let input = change_of g.I.Source.left g.I.Source.faults c.args.input.now c.read_script.new.input in
    let out = change_of g.O.Sink.held g.O.Sink.faults c.args.out.now c.args.out.now in
    let notes = change_of g.N.Sink.held g.N.Sink.faults c.args.notes.now c.ends_unread.new.notes in
    refused_answers input out notes c.in-Err.fault c.ends_unread.result c.in-Err.ensures.fault (refl, refl) c.ends_unread.ensures

pub returns-in-Err-clause-exact : goal.returns-in-Err-clause-exact
returns-in-Err-clause-exact g c =
    let input = change_of g.I.Source.left g.I.Source.faults c.args.input.now c.read_script.new.input in
    let notes = change_of g.N.Sink.held g.N.Sink.faults c.args.notes.now c.ends_unread.new.notes in
    refused_decides (λ z. z) IsOwn input notes c.in-Err.fault c.ends_unread.result c.in-Err.ensures.fault c.ends_unread.ensures
