use Rattle.std.proofs.Common.{refl}
use Rattle.command_endings.specs.Changes.{change_of}
use Rattle.command_jobs.proofs.Due.{decided}
use Rattle.command_jobs.proofs.Ended.{answered, refused}
use Rattle.command_jobs.proofs.command.run_jobs_command.Goals as goal

pub returns-in-Ok-clause-answers : goal.returns-in-Ok-clause-answers
returns-in-Ok-clause-answers g c =
    let input = change_of g.I.Source.left g.I.Source.faults c.args.input.now c.read_jobs.new.input in
    let out = change_of g.O.Sink.held g.O.Sink.faults c.args.out.now c.run_read.new.out in
    let notes = change_of g.N.Sink.held g.N.Sink.faults c.args.notes.now c.run_read.new.notes in
    let read = c.in-Ok.ensures in
    answered input out notes c.run_read.result c.in-Ok.lines.items (record { few = read.few; whole = read.lines; end = read.end }) c.run_read.ensures

pub returns-in-Ok-clause-exact : goal.returns-in-Ok-clause-exact
returns-in-Ok-clause-exact g c = λ bytes due reported memory failed is.
    let input = change_of g.I.Source.left g.I.Source.faults c.args.input.now c.read_jobs.new.input in
    let out = change_of g.O.Sink.held g.O.Sink.faults c.args.out.now c.run_read.new.out in
    let notes = change_of g.N.Sink.held g.N.Sink.faults c.args.notes.now c.run_read.new.notes in
    let read = c.in-Ok.ensures in
    decided input bytes reported out notes c.run_read.result due
    (answered input out notes c.run_read.result c.in-Ok.lines.items (record { few = read.few; whole = read.lines; end = read.end }) c.run_read.ensures) memory failed is

pub returns-in-Err-clause-answers : goal.returns-in-Err-clause-answers
returns-in-Err-clause-answers g c =
    let input = change_of g.I.Source.left g.I.Source.faults c.args.input.now c.read_jobs.new.input in
    let out = change_of g.O.Sink.held g.O.Sink.faults c.args.out.now c.args.out.now in
    let notes = change_of g.N.Sink.held g.N.Sink.faults c.args.notes.now c.ends_unread.new.notes in
    refused input out notes c.ends_unread.result c.in-Err.fault c.in-Err.ensures.fault (refl, refl) c.ends_unread.ensures

pub returns-in-Err-clause-exact : goal.returns-in-Err-clause-exact
returns-in-Err-clause-exact g c = λ bytes due reported memory failed is.
    let input = change_of g.I.Source.left g.I.Source.faults c.args.input.now c.read_jobs.new.input in
    let out = change_of g.O.Sink.held g.O.Sink.faults c.args.out.now c.args.out.now in
    let notes = change_of g.N.Sink.held g.N.Sink.faults c.args.notes.now c.ends_unread.new.notes in
    decided input bytes reported out notes c.ends_unread.result due
    (refused input out notes c.ends_unread.result c.in-Err.fault c.in-Err.ensures.fault (refl, refl) c.ends_unread.ensures) memory failed is
