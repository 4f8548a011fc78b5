use Rattle.std.proofs.Common.{◌≡◌, ◌+◌, ◌-◌, ◌∙◌, refl, arith}
use Rattle.trace_core.specs.declared.line.Line.TheVariants as line
use Rattle.trace_core.specs.declared.line.Expect.TheVariants as expect
use Rattle.exact_text.specs.Intake.{rest_of, room_of}
use Rattle.trace_core.proofs.Outcomes.{after_line}
use Rattle.trace_core.proofs.Ends.{past_values, asked_reason, one_more_value, on_ok, if_err}
use Rattle.trace_core.proofs.Asking.{value_asks, values_asks}
use Rattle.exact_text.proofs.Reported.{same_reported, then_reported, fault_reported}
use Rattle.trace_core.proofs.sections.+take_values.Goals as goal

pub returns-then-least-layout-clause-fault : goal.returns-then-least-layout-clause-fault
returns-then-least-layout-clause-fault g t c =
    let a = rw c.in-Ok-true.field-0-test at c.in-Ok-true.ensures.asked in
    let one : c.goes_on.new.self.lines + 1 - c.args.intake.now.lines ≡ 1 = omega (arith, a.0.1) in (
      omega (arith, a.0.1),
      rw one (past_values c.args.layout.now c.args.least (room_of c.args.intake.now) _ (g.I.Source.left c.goes_on.new.input) c.goes_on.new.self.window c.if-least-layout.true a.2 (omega (arith, a.1)) a.3),
    )

pub returns-in-Ok-Value-clause-end : goal.returns-in-Ok-Value-clause-end
returns-in-Ok-Value-clause-end g t c =
    let a = rw c.in-Ok-true.field-0-test at c.in-Ok-true.ensures.asked in
    let h = c.in-Ok-Value.ensures in
    let taken = rw c.in-Ok-Value.field-0-is at h.line in
    let room = rw c.in-Ok-Value.field-0-is at h.room in
    on_ok c.take_values.result
    (one_more_value c.args.layout.now c.args.least c.in-Ok-Value.mutex c.in-Ok-Value.field-0-1 (room_of c.args.intake.now) (room_of c.take_line.new.intake) (rest_of c.args.intake.now (g.I.Source.left c.args.input.now)) (rest_of c.goes_on.new.self (g.I.Source.left c.goes_on.new.input)) (rest_of c.take_line.new.intake (g.I.Source.left c.take_line.new.input)) a.2 taken.0 taken.1 (omega (arith, room, a.1)))
    c.take_values.ensures.end

pub returns-in-Ok-Value-clause-fault : goal.returns-in-Ok-Value-clause-fault
returns-in-Ok-Value-clause-fault g t c =
    let a = rw c.in-Ok-true.field-0-test at c.in-Ok-true.ensures.asked in
    let h = c.in-Ok-Value.ensures in
    let taken = rw c.in-Ok-Value.field-0-is at h.line in
    let room = rw c.in-Ok-Value.field-0-is at h.room in
    let l = c.args.layout.now in
    if_err c.take_values.result
    (λ fault r. asked_reason l c.args.least (c.requires, c.if-least-layout.false) c.args.intake.now c.goes_on.new.self (g.I.Source.left c.args.input.now) (g.I.Source.left c.goes_on.new.input) (g.I.Source.left c.take_values.new.input) (g.I.Source.faults c.args.input.now) (g.I.Source.faults c.goes_on.new.input) (g.I.Source.faults c.take_values.new.input) fault a c.goes_on.ensures.reported.later
    (after_line (expect.Values l c.args.least) (c.requires, c.if-least-layout.false) (line.Value c.in-Ok-Value.mutex c.in-Ok-Value.field-0-1) taken.0
    _ (rest_of c.take_line.new.intake (g.I.Source.left c.take_line.new.input)) _ _ _ _ (room_of c.take_line.new.intake) _ (g.I.Source.faults c.take_line.new.input) _
    fault taken.1 room h.lines h.reported.later r))
    c.take_values.ensures.fault

pub returns-in-Err-take_line-clause-fault : goal.returns-in-Err-take_line-clause-fault
returns-in-Err-take_line-clause-fault g t c =
    let a = rw c.in-Ok-true.field-0-test at c.in-Ok-true.ensures.asked in
    asked_reason c.args.layout.now c.args.least (c.requires, c.if-least-layout.false) c.args.intake.now c.goes_on.new.self (g.I.Source.left c.args.input.now) (g.I.Source.left c.goes_on.new.input) (g.I.Source.left c.take_line.new.input) (g.I.Source.faults c.args.input.now) (g.I.Source.faults c.goes_on.new.input) (g.I.Source.faults c.take_line.new.input) c.in-Err-take_line.fault a c.goes_on.ensures.reported.later
    c.in-Err-take_line.ensures.fault

pub returns-in-Ok-Value-clause-asks : goal.returns-in-Ok-Value-clause-asks
returns-in-Ok-Value-clause-asks g t c =
    values_asks c.args.layout.now c.args.least c.in-Ok-Value.mutex c.in-Ok-Value.field-0-1 (c.requires, c.if-least-layout.false) c.args.intake.now c.goes_on.new.self c.take_line.new.intake.window c.goes_on.ensures.asks
    (rw c.in-Ok-Value.field-0-is at c.in-Ok-Value.ensures.asks) c.take_values.ensures.asks

pub returns-in-Err-take_line-clause-asks : goal.returns-in-Err-take_line-clause-asks
returns-in-Err-take_line-clause-asks g t c =
    value_asks c.args.layout.now c.args.least (c.requires, c.if-least-layout.false) c.args.intake.now c.goes_on.new.self c.goes_on.ensures.asks c.in-Err-take_line.ensures.asks_first

pub returns-in-Ok-false-clause-reported : goal.returns-in-Ok-false-clause-reported
returns-in-Ok-false-clause-reported g t c = same_reported _ _ _ c.in-Ok-false.ensures.reported.unfailed

pub returns-in-Err-clause-reported : goal.returns-in-Err-clause-reported
returns-in-Err-clause-reported g t c = fault_reported _ _ _ c.in-Err.fault refl c.in-Err.ensures.reported

pub returns-then-least-layout-clause-reported : goal.returns-then-least-layout-clause-reported
returns-then-least-layout-clause-reported g t c = same_reported _ _ _ c.in-Ok-true.ensures.reported.unfailed

pub returns-in-Ok-Value-clause-reported : goal.returns-in-Ok-Value-clause-reported
returns-in-Ok-Value-clause-reported g t c = then_reported _ _ _ c.take_values.result (c.in-Ok-Value.ensures.reported.unfailed ∙ c.in-Ok-true.ensures.reported.unfailed) c.take_values.ensures.reported

pub returns-in-Err-take_line-clause-reported : goal.returns-in-Err-take_line-clause-reported
returns-in-Err-take_line-clause-reported g t c = fault_reported _ _ _ c.in-Err-take_line.fault c.in-Ok-true.ensures.reported.unfailed c.in-Err-take_line.ensures.reported
