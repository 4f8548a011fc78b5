use Rattle.std.proofs.Common.{◌∙◌, refl, arith}
use Rattle.trace_core.specs.declared.line.Line.TheVariants as line
use Rattle.trace_core.specs.declared.line.Expect.TheVariants as expect
use Rattle.exact_text.specs.Intake.{rest_of, room_of}
use Rattle.trace_core.specs.Text.{IsValues}
use Rattle.trace_core.proofs.Outcomes.{after_line, event_lacks, end_lacks}
use Rattle.trace_core.proofs.Asking.{asked_or_not, event_asks, end_asks}
use Rattle.exact_text.proofs.Reported.{same_reported, fault_reported}
use Rattle.trace_core.proofs.sections.take_event.Goals as goal

pub returns-in-Err-take_values-clause-fault : goal.returns-in-Err-take_values-clause-fault
returns-in-Err-take_values-clause-fault g c =
    let h = c.in-Ok-End.ensures in
    let taken = rw c.in-Ok-End.field-0-is at h.line in
    let room = rw c.in-Ok-End.field-0-is at h.room in
    after_line (expect.Events c.args.layout.now c.args.place) (c.requires.lawful, omega (arith, c.requires.placed)) line.End tt
    _ (rest_of c.take_line.new.intake (g.I.Source.left c.take_line.new.input)) _ _ _ _ (room_of c.take_line.new.intake) _ (g.I.Source.faults c.take_line.new.input) _
    c.in-Err-take_values.fault taken.1 room h.lines h.reported.later c.in-Err-take_values.ensures.fault

pub returns-in-Err-take_values-clause-lacks : goal.returns-in-Err-take_values-clause-lacks
returns-in-Err-take_values-clause-lacks g c =
    let h = c.in-Ok-End.ensures in
    let taken = rw c.in-Ok-End.field-0-is at h.line in
    let room = rw c.in-Ok-End.field-0-is at h.room in
    end_lacks c.args.layout.now c.args.place (c.requires.lawful, omega (arith, c.requires.placed)) (IsValues c.args.layout.now 0) _ _ (room_of c.take_line.new.intake) _ (rest_of c.take_line.new.intake (g.I.Source.left c.take_line.new.input)) _ _ _
    c.in-Err-take_values.fault taken.1 room c.in-Err-take_values.ensures.fault

pub returns-in-Err-clause-lacks : goal.returns-in-Err-clause-lacks
returns-in-Err-clause-lacks g c =
    event_lacks c.args.layout.now c.requires.lawful c.args.place _ _ _ c.in-Err.fault c.in-Err.ensures.lacks

pub returns-in-Ok-Event-clause-asks : goal.returns-in-Ok-Event-clause-asks
returns-in-Ok-Event-clause-asks g c =
    event_asks c.args.layout.now c.args.place (c.requires.lawful, omega (arith, c.requires.placed)) c.args.intake.now.window (asked_or_not c.in-Ok-Event.ensures.asks)

pub returns-in-Ok-take_values-clause-asks : goal.returns-in-Ok-take_values-clause-asks
returns-in-Ok-take_values-clause-asks g c =
    end_asks c.args.layout.now c.args.place (c.requires.lawful, omega (arith, c.requires.placed)) c.args.intake.now.window c.take_line.new.intake.window (rw c.in-Ok-End.field-0-is at c.in-Ok-End.ensures.asks) c.take_values.ensures.asks

pub returns-in-Err-take_values-clause-asks : goal.returns-in-Err-take_values-clause-asks
returns-in-Err-take_values-clause-asks g c =
    end_asks c.args.layout.now c.args.place (c.requires.lawful, omega (arith, c.requires.placed)) c.args.intake.now.window c.take_line.new.intake.window (rw c.in-Ok-End.field-0-is at c.in-Ok-End.ensures.asks) c.take_values.ensures.asks

pub returns-in-Err-clause-asks : goal.returns-in-Err-clause-asks
returns-in-Err-clause-asks g c = event_asks c.args.layout.now c.args.place (c.requires.lawful, omega (arith, c.requires.placed)) c.args.intake.now.window c.in-Err.ensures.asks_first

pub returns-in-Ok-Event-clause-reported : goal.returns-in-Ok-Event-clause-reported
returns-in-Ok-Event-clause-reported g c = same_reported _ _ _ c.in-Ok-Event.ensures.reported.unfailed

pub returns-in-Ok-take_values-clause-reported : goal.returns-in-Ok-take_values-clause-reported
returns-in-Ok-take_values-clause-reported g c = same_reported _ _ _ (c.in-Ok-take_values.ensures.reported.unfailed ∙ c.in-Ok-End.ensures.reported.unfailed)

pub returns-in-Err-take_values-clause-reported : goal.returns-in-Err-take_values-clause-reported
returns-in-Err-take_values-clause-reported g c = fault_reported _ _ _ c.in-Err-take_values.fault c.in-Ok-End.ensures.reported.unfailed c.in-Err-take_values.ensures.reported

pub returns-in-Err-clause-reported : goal.returns-in-Err-clause-reported
returns-in-Err-clause-reported g c = fault_reported _ _ _ c.in-Err.fault refl c.in-Err.ensures.reported
