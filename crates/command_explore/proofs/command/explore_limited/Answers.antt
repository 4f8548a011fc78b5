use Rattle.std.proofs.Common.{refl}
use Rattle.command_endings.specs.Changes.{change_of}
use Rattle.command_script.proofs.Decided.{read_decides, refused_decides}
use Rattle.command_explore.specs.declared.stuck.ExploreStatus.TheVariants.{As}
use Rattle.command_explore.specs.Explore.{Own}
use Rattle.command_explore.proofs.Answering.{answered, is_own, refused_answers, refused_reports}
use Rattle.command_explore.proofs.command.explore_limited.Goals as goal

pub returns-in-Ok-clause-answers : goal.returns-in-Ok-clause-answers
returns-in-Ok-clause-answers g c =
    let input = change_of g.I.Source.left g.I.Source.faults c.args.input.now c.read_script.new.input in
    let out = change_of g.O.Sink.held g.O.Sink.faults c.args.out.now c.explore_read.new.out in
    let notes = change_of g.N.Sink.held g.N.Sink.faults c.args.notes.now c.explore_read.new.notes in
    let s = c.in-Ok.ensures in
    answered c.args.limit c.in-Ok.script.layout c.in-Ok.script.lines out notes input c.explore_read.result (record { rules = s.rules; few = s.few; whole = s.script; end = s.end }) c.explore_read.ensures

pub returns-in-Ok-clause-exact : goal.returns-in-Ok-clause-exact
returns-in-Ok-clause-exact g c =
    let input = change_of g.I.Source.left g.I.Source.faults c.args.input.now c.read_script.new.input in
    let out = change_of g.O.Sink.held g.O.Sink.faults c.args.out.now c.explore_read.new.out in
    let notes = change_of g.N.Sink.held g.N.Sink.faults c.args.notes.now c.explore_read.new.notes in
    let s = c.in-Ok.ensures in
    read_decides As Own input c.in-Ok.script.layout c.in-Ok.script.lines c.explore_read.result (record { rules = s.rules; few = s.few; whole = s.script; end = s.end })
    (is_own c.args.limit c.in-Ok.script.layout c.in-Ok.script.lines out notes c.explore_read.result c.explore_read.ensures)

pub returns-in-Err-clause-answers : goal.returns-in-Err-clause-answers
returns-in-Err-clause-answers g c =
    let input = change_of g.I.Source.left g.I.Source.faults c.args.input.now c.read_script.new.input in
    let out = change_of g.O.Sink.held g.O.Sink.faults c.args.out.now c.args.out.now in
    let notes = change_of g.N.Sink.held g.N.Sink.faults c.args.notes.now c.ends_unread.new.notes in
    refused_answers c.args.limit input out notes c.in-Err.fault c.ends_unread.result c.in-Err.ensures.fault (refl, refl) c.ends_unread.ensures

pub returns-in-Err-clause-exact : goal.returns-in-Err-clause-exact
returns-in-Err-clause-exact g c =
    let input = change_of g.I.Source.left g.I.Source.faults c.args.input.now c.read_script.new.input in
    let notes = change_of g.N.Sink.held g.N.Sink.faults c.args.notes.now c.ends_unread.new.notes in
    refused_decides As Own input notes c.in-Err.fault c.ends_unread.result c.in-Err.ensures.fault c.ends_unread.ensures

pub returns-in-Err-clause-reported : goal.returns-in-Err-clause-reported
returns-in-Err-clause-reported g c =
    let input = change_of g.I.Source.left g.I.Source.faults c.args.input.now c.read_script.new.input in
    let notes = change_of g.N.Sink.held g.N.Sink.faults c.args.notes.now c.ends_unread.new.notes in
    refused_reports input notes c.in-Err.fault c.ends_unread.result c.ends_unread.ensures c.in-Err.ensures.reported.otherwise
