use Rattle.std.proofs.Common.{sym, subst}
use Rattle.exact_text.specs.declared.fault.TextFault.{TextFault}
use Rattle.command_endings.specs.Changes.{change_of}
use Rattle.command_endings.specs.Endings.{SaysFault}
use Rattle.command_endings.proofs.ending.ends_unread.Goals as goal

pub returns-in-BadLine : goal.returns-in-BadLine
returns-in-BadLine g c =
    let said = c.ends-in-BadLine.ensures in
    let notes = change_of g.N.Sink.held g.N.Sink.faults c.args.notes.now c.ends-in-BadLine.new.notes in
    subst (λ (f : TextFault). SaysFault f notes c.ends-in-BadLine.result) (sym c.in-BadLine.is) (said.status, said.notes)
