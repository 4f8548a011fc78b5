use Rattle.std.proofs.Common.{◌+◌, take, arith, length-take, refl}
use Rattle.exact_text.specs.declared.intake.Intake.{Intake}
use Rattle.exact_text.proofs.Reported.{same_reported, read_reported}
use Rattle.exact_text.proofs.Filled.{filled, kept_by_none, still_within}
use Rattle.exact_text.proofs.intake.Intake.fill.Goals as goal

pub returns-in-Err-clause-reported : goal.returns-in-Err-clause-reported
returns-in-Err-clause-reported g c = read_reported _ _ c.in-Err.ensures.cause.later

pub returns-in-Ok-clause-reported : goal.returns-in-Ok-clause-reported
returns-in-Ok-clause-reported g c = same_reported _ _ _ c.in-Ok.ensures.unfailed

pub returns-in-Err-next-clause-reported : goal.returns-in-Err-next-clause-reported
returns-in-Err-next-clause-reported g c = read_reported _ _ c.in-Err-next.ensures.cause.later

pub returns-in-Ok-eq0-clause-reported : goal.returns-in-Ok-eq0-clause-reported
returns-in-Ok-eq0-clause-reported g c = same_reported _ _ _ c.in-Ok-eq0.ensures.unfailed

pub returns-in-Ok-next-clause-reported : goal.returns-in-Ok-next-clause-reported
returns-in-Ok-next-clause-reported g c = same_reported _ _ _ c.in-Ok-next.ensures.unfailed

pub invariant_of-self-in-Ok : goal.invariant_of-self-in-Ok
invariant_of-self-in-Ok g c =
    let s = c.args.self.now in
    let w = still_within _ s.given s.budget s.lines c.in-Ok.count _ _ _ _ s.read s.within (omega arith) c.in-Ok.ensures.bytes in
    record { read = w.0; within = w.1; below = s.below }

pub returns-in-Ok-clause-filled : goal.returns-in-Ok-clause-filled
returns-in-Ok-clause-filled g c =
    let s = c.args.self.now in
    let w = still_within _ s.given s.budget s.lines c.in-Ok.count _ _ _ _ s.read s.within (omega arith) c.in-Ok.ensures.bytes in
    let new : Intake = record { window = c.refill.new.self; given = s.given + c.in-Ok.count; budget = s.budget; lines = s.lines; read = w.0; within = w.1; below = s.below } in
    filled s new _ _ (g.I.Source.faults c.args.input.now) (g.I.Source.faults c.refill.new.input) _ c.in-Ok.count refl refl refl (omega arith) c.in-Ok.ensures.bytes

pub returns-in-Ok-eq0-clause-filled : goal.returns-in-Ok-eq0-clause-filled
returns-in-Ok-eq0-clause-filled g c =
    let b = c.in-Ok-eq0.ensures.bytes in
    let n = c.in-Ok-eq0.field-0 in
    let read = c.next.new.buf in
    ((refl, refl), refl, refl, kept_by_none _ _ (take n read) b.0 (omega (arith, length-take n read, c.in-Ok-eq0.field-0-test)), b.1 c.in-Ok-eq0.field-0-test (omega arith))

pub returns-in-Ok-next-clause-filled : goal.returns-in-Ok-next-clause-filled
returns-in-Ok-next-clause-filled g c =
    let n = c.in-Ok-next.field-0 in
    let read = c.next.new.buf in
    (omega (arith, c.args.self.now.within), (take n read, c.in-Ok-next.ensures.bytes.0, omega (arith, length-take n read, c.in-Ok-next.ensures.within, c.in-Ok-next.field-0-test)))
