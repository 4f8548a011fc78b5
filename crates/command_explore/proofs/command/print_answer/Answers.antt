use Rattle.std.proofs.Common.{subst}
use Rattle.script_search.specs.declared.explorer.Answer.{Answer}
use Rattle.script_search.specs.Explored.{IsAnswer}
use Rattle.command_endings.specs.Changes.{change_of}
use Rattle.command_explore.proofs.Answering.{printed_ends}
use Rattle.command_explore.proofs.command.print_answer.Goals as goal

pub returns-in-Ends : goal.returns-in-Ends
returns-in-Ends g c =
    let l = c.args.script.now.layout in
    let xs = c.args.script.now.lines in
    let out = change_of g.O.Sink.held g.O.Sink.faults c.args.out.now c.print.new.out in
    let notes = change_of g.N.Sink.held g.N.Sink.faults c.args.notes.now c.print.new.notes in
    printed_ends c.args.limit l xs out notes c.print.result (subst (λ (a : Answer). IsAnswer l xs a) c.in-Ends.is c.requires.answer) c.print.ensures

pub print_stuck-requires-clause-stuck : goal.print_stuck-requires-clause-stuck
print_stuck-requires-clause-stuck g c = subst (λ (a : Answer). IsAnswer c.args.script.now.layout c.args.script.now.lines a) c.in-Stuck.is c.requires.answer
