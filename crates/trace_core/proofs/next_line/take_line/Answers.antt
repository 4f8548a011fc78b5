use Rattle.exact_text.specs.Intake.{rest_of, room_of}
use Rattle.exact_text.proofs.Texts.{text_reason}
use Rattle.trace_core.proofs.Ends.{if_err}
use Rattle.trace_core.proofs.LineLaws.{line_code}
use Rattle.trace_core.proofs.Outcomes.{stuck_lacks}
use Rattle.trace_core.proofs.Short.{line_is_line, some_line}
use Rattle.trace_core.proofs.Texts.{line_grammar}
use Rattle.trace_core.proofs.next_line.take_line.Goals as goal

pub take_line-requires : goal.take_line-requires
take_line-requires g c =
    let x = c.args.expect.now in
    record { possible = c.requires; exact = line_code x c.requires; lines = line_is_line x c.requires; some = some_line x c.requires }

pub returns-clause-fault : goal.returns-clause-fault
returns-clause-fault g c =
    let x = c.args.expect.now in
    if_err c.take_line.result
    (λ f h. text_reason (line_grammar x c.requires) (line_code x c.requires) (rest_of c.args.intake.now (g.I.Source.left c.args.input.now)) (g.I.Source.left c.take_line.new.input) c.args.intake.now.lines (room_of c.args.intake.now)
    (g.I.Source.faults c.args.input.now) (g.I.Source.faults c.take_line.new.input) f h) c.take_line.ensures.fault

pub returns-clause-lacks : goal.returns-clause-lacks
returns-clause-lacks g c =
    if_err c.take_line.result
    (λ f h. stuck_lacks c.args.expect.now c.requires (rest_of c.args.intake.now (g.I.Source.left c.args.input.now)) (g.I.Source.left c.take_line.new.input) c.args.intake.now.lines (room_of c.args.intake.now)
    (g.I.Source.faults c.args.input.now) (g.I.Source.faults c.take_line.new.input) f h) c.take_line.ensures.fault
