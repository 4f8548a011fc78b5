use Rattle.std.proofs.Common.{◌-◌, refl, arith}
use Rattle.exact_text.specs.Intake.{rest_of}
use Rattle.exact_text.proofs.LinesOf.{lines_some, lines_back, lines_grammar, no_lines}
use Rattle.exact_text.proofs.Reported.{same_reported, fault_reported}
use Rattle.exact_text.proofs.Stuck.{some_left, nothing_left}
use Rattle.exact_text.proofs.Texts.{line_left, full_reason}
use Rattle.exact_text.proofs.lines.another_line.Goals as goal

pub returns-in-Ok-false-clause-end : goal.returns-in-Ok-false-clause-end
returns-in-Ok-false-clause-end g c =
    let a = rw c.in-Ok-false.field-0-test at c.in-Ok-false.ensures.asked in
    (nothing_left (g.I.Source.left c.args.input.now) (g.I.Source.left c.goes_on.new.input) c.args.intake.now.window a.1 a.2 a.3, a.3)

pub returns-in-Ok-false-clause-reported : goal.returns-in-Ok-false-clause-reported
returns-in-Ok-false-clause-reported g c = same_reported _ _ _ c.in-Ok-false.ensures.reported.unfailed

pub returns-in-Err-clause-reported : goal.returns-in-Err-clause-reported
returns-in-Err-clause-reported g c = fault_reported _ _ _ c.in-Err.fault refl c.in-Err.ensures.reported

pub returns-then-intake-most-clause-fault : goal.returns-then-intake-most-clause-fault
returns-then-intake-most-clause-fault g c =
    let a = rw c.in-Ok-true.field-0-test at c.in-Ok-true.ensures.asked in
    let r = rest_of c.args.intake.now (g.I.Source.left c.args.input.now) in
    full_reason (no_lines (g.met.L.NextLine.is_exact c.args.next.now c.requires.possible)) r (g.I.Source.left c.goes_on.new.input) (c.args.most - c.args.intake.now.lines) c.args.intake.now.lines (g.I.Source.faults c.args.input.now) (g.I.Source.faults c.goes_on.new.input)
    (omega (arith, c.if-intake-most.true, a.0.1)) (some_left r (g.I.Source.left c.goes_on.new.input) c.goes_on.new.self.window a.2 a.3)

pub returns-in-Err-take_line-clause-fault : goal.returns-in-Err-take_line-clause-fault
returns-in-Err-take_line-clause-fault g c =
    let a = rw c.in-Ok-true.field-0-test at c.in-Ok-true.ensures.asked in
    let next = c.args.next.now in
    let ok = c.requires.possible in
    let code = g.met.L.NextLine.is_exact next ok in
    let grammar = lines_grammar code (λ x h. (g.met.L.NextLine.is_line next ok x h).0) (g.met.L.NextLine.is_some next ok) in
    line_left (lines_some code) (lines_back code) grammar code (λ x h. (g.met.L.NextLine.is_line next ok x h).1) c.args.intake.now c.goes_on.new.self (g.I.Source.left c.args.input.now)
    (g.I.Source.left c.goes_on.new.input) (g.I.Source.left c.take_line.new.input) (c.args.most - c.args.intake.now.lines) (g.I.Source.faults c.args.input.now) (g.I.Source.faults c.goes_on.new.input)
    (g.I.Source.faults c.take_line.new.input) c.in-Err-take_line.fault a c.in-Ok-true.ensures.reported.later (omega (arith, c.if-intake-most.false, a.0.1)) c.requires.room c.in-Err-take_line.ensures.fault
