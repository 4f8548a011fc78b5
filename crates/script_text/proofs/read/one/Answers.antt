use Rattle.std.proofs.Common.{[], ◌+◌, ◌-◌, sym, ◌∙◌, arith}
use Rattle.std.proofs.lemmas.Bool.{false≢true}
use Rattle.exact_text.specs.Intake.{rest_of}
use Rattle.std.proofs.KnownBytes.{Consumes-trans}
use Rattle.exact_text.proofs.Stuck.{kept_none}
use Rattle.script_text.specs.NextLine.{whole_line}
use Rattle.script_text.proofs.Reading.{readable, asked_why, stuck_why, full_why, held_why}
use Rattle.script_text.proofs.read.one.Goals as goal

pub returns-in-Ok-false-clause-fault : goal.returns-in-Ok-false-clause-fault
returns-in-Ok-false-clause-fault g c =
    let a = rw c.in-Ok-false.field-0-test at c.in-Ok-false.ensures.asked in
    let old = c.args.intake.now in
    let left' = g.I.Source.left c.goes_on.new.input in
    let now = g.I.Source.faults c.goes_on.new.input in
    held_why c.args.draft.now c.requires.draft old c.goes_on.new.self (g.I.Source.left c.args.input.now) left' left' (100000 - old.lines) (g.I.Source.faults c.args.input.now) now now a
    (λ free. false≢true (sym c.if-is_free.false ∙ c.is_free.ensures.1 free)) (c.goes_on.new.self.lines + 1) (omega (arith, a.0.1))

pub returns-in-Err-clause-fault : goal.returns-in-Err-clause-fault
returns-in-Err-clause-fault g c =
    let old = c.args.intake.now in
    let left' = g.I.Source.left c.goes_on.new.input in
    let now = g.I.Source.faults c.goes_on.new.input in
    asked_why c.args.draft.now c.requires.draft old c.goes_on.new.self (g.I.Source.left c.args.input.now) left' left' (100000 - old.lines) (g.I.Source.faults c.args.input.now) now now c.in-Err.fault c.requires.room
    c.in-Err.ensures.asked

pub returns-then-intake-ge-MOST_LINES-clause-fault :
    goal.returns-then-intake-ge-MOST_LINES-clause-fault
returns-then-intake-ge-MOST_LINES-clause-fault g c =
    let a = rw c.in-Ok-true.field-0-test at c.in-Ok-true.ensures.asked in
    let old = c.args.intake.now in
    let left' = g.I.Source.left c.goes_on.new.input in
    let now = g.I.Source.faults c.goes_on.new.input in
    full_why c.args.draft.now c.requires.draft old c.goes_on.new.self (g.I.Source.left c.args.input.now) left' left' (100000 - old.lines) (g.I.Source.faults c.args.input.now) now now a
    (omega (arith, c.if-intake-ge-MOST_LINES.true, a.0.1))

pub take_line-requires : goal.take_line-requires
take_line-requires g c = (c.requires.draft, readable c.args.draft.now c.requires.draft)

pub returns-in-Err-take_line-clause-fault : goal.returns-in-Err-take_line-clause-fault
returns-in-Err-take_line-clause-fault g c =
    let a = rw c.in-Ok-true.field-0-test at c.in-Ok-true.ensures.asked in
    let old = c.args.intake.now in
    stuck_why c.args.draft.now c.requires.draft old c.goes_on.new.self (g.I.Source.left c.args.input.now) (g.I.Source.left c.goes_on.new.input) (g.I.Source.left c.take_line.new.input) (100000 - old.lines)
    (g.I.Source.faults c.args.input.now) (g.I.Source.faults c.goes_on.new.input) (g.I.Source.faults c.take_line.new.input) c.in-Err-take_line.fault a c.in-Ok-true.ensures.reported.unfailed
    (omega (arith, c.if-intake-ge-MOST_LINES.false, a.0.1)) c.requires.room c.in-Err-take_line.ensures.fault

pub returns-in-Ok-take-clause-read : goal.returns-in-Ok-take-clause-read
returns-in-Ok-take-clause-read g c =
    let a = rw c.in-Ok-true.field-0-test at c.in-Ok-true.ensures.asked in
    let x = c.in-Ok.line in
    let h = c.in-Ok.ensures in
    let r = rest_of c.args.intake.now (g.I.Source.left c.args.input.now) in
    let here = rest_of c.goes_on.new.self (g.I.Source.left c.goes_on.new.input) in
    let then = rest_of c.take_line.new.intake (g.I.Source.left c.take_line.new.input) in
    record {
      line = x;
      may = h.line.0;
      takes = c.in-Ok-take.ensures.taken;
      bytes = Consumes-trans r here then [] (whole_line x) (kept_none r here a.2) h.line.1;
      few = omega (arith, c.if-intake-ge-MOST_LINES.false, a.0.1);
      counted = omega (arith, h.lines, a.0.1);
      room = omega (arith, h.room, a.1, ((readable c.args.draft.now c.requires.draft).lines x h.line.0).1);
    }
