use Rattle.std.proofs.Common.{◌-◌, ◌∷◌, [], length, length-append, append-nil, refl, ap, sym, subst, ◌∙◌, arith}
use Rattle.exact_text.specs.Exact.{HasReason, lines_room}
use Rattle.exact_text.specs.Intake.{rest_of}
use Rattle.exact_text.proofs.Reported.{same_reported, fault_reported}
use Rattle.exact_text.proofs.Stuck.{consumes_none, all_read}
use Rattle.exact_text.proofs.Texts.{or_map}
use Rattle.script_text.specs.declared.draft.Draft.{Draft}
use Rattle.script_text.specs.Drafts.{held_in, forked_in}
use Rattle.script_text.specs.Finished.{IsFinished}
use Rattle.script_text.specs.Layouts.{head_lines}
use Rattle.script_text.specs.Operations.{none_held, none_forked}
use Rattle.script_text.specs.Text.{lines_text}
use Rattle.script_text.specs.Texts.{IsRest}
use Rattle.script_text.proofs.Layouts.{few_head}
use Rattle.script_text.proofs.Reading.{line_step, none_step, consumed_more}
use Rattle.script_text.proofs.read.lines.Goals as goal

pub loop-fault-init : goal.loop-fault-init
loop-fault-init g c =
    let d = c.args.draft.now in
    let r = rest_of c.args.intake.now (g.I.Source.left c.args.input.now) in
    record {
      draft = c.requires.draft;
      layout = refl;
      counted = omega (arith, c.requires.counted, ap length c.requires.none);
      few = omega (arith, c.requires.counted, few_head d.layout.version);
      room = omega (arith, c.requires.room);
      consumed = consumes_none r (lines_text d.lines.items) (ap lines_text c.requires.none);
      unfailed = refl;
      reasons = λ left' now f h. none_step d c.requires.none r left' (100000 - c.args.intake.now.lines) c.args.intake.now.lines (g.I.Source.faults c.args.input.now) now f h;
    }

pub loop-fault-preserved : goal.loop-fault-preserved
loop-fault-preserved g c =
    let was = c.loop-fault.invariant in
    let e = rw c.in-Ok-true.field-0-test at c.in-Ok-true.ensures.read in
    let d = c.loop-fault.draft in
    let xs = d.lines.items in
    let x = e.line in
    let r = rest_of c.args.intake.now (g.I.Source.left c.args.input.now) in
    let here = rest_of c.loop-fault.intake (g.I.Source.left c.loop-fault.input) in
    let then = rest_of c.one.new.intake (g.I.Source.left c.one.new.input) in
    record {
      draft = e.takes.draft;
      layout = e.takes.layout ∙ was.layout;
      counted = omega (arith, e.counted, was.counted, ap (λ l. head_lines l.version) e.takes.layout, ap length e.takes.lines, length-append xs (x ∷ []));
      few = omega (arith, e.few, e.counted);
      room = omega (arith, e.room, e.counted, was.room);
      consumed = consumed_more r here then xs c.one.new.draft.lines.items x e.takes.lines was.consumed e.bytes;
      unfailed = c.in-Ok-true.ensures.reported.unfailed ∙ was.unfailed;
      reasons = λ left' now f h.
          was.reasons left' now f
          (line_step d c.one.new.draft x was.draft e.may e.takes here then left' c.loop-fault.intake.lines c.one.new.intake.lines (g.I.Source.faults c.loop-fault.input) (g.I.Source.faults c.one.new.input) now f e.bytes e.few e.counted c.in-Ok-true.ensures.reported.later h);
    }

pub returns-in-Ok-false-clause-done : goal.returns-in-Ok-false-clause-done
returns-in-Ok-false-clause-done g c =
    let was = c.loop-fault.invariant in
    let e = rw c.in-Ok-false.field-0-test at c.in-Ok-false.ensures.read in
    let d = c.loop-fault.draft in
    let r = rest_of c.args.intake.now (g.I.Source.left c.args.input.now) in
    let here = rest_of c.loop-fault.intake (g.I.Source.left c.loop-fault.input) in
    subst (λ (k : Draft). IsFinished k r (g.I.Source.left c.one.new.input)) (sym e.same) (record {
      follow = was.draft.follow;
      free = e.free;
      few = omega (arith, was.counted, was.few);
      at_end = e.at_end;
      text = all_read r here (lines_text d.lines.items) [] (lines_text d.lines.items) was.consumed e.nothing (append-nil (lines_text d.lines.items));
    })

pub returns-in-Err-clause-fault : goal.returns-in-Err-clause-fault
returns-in-Err-clause-fault g c =
    let was = c.loop-fault.invariant in
    let d = c.loop-fault.draft in
    let k = c.args.draft.now in
    or_map
    (HasReason (IsRest d.layout (held_in d) (forked_in d)) (lines_room (100000 - c.loop-fault.intake.lines)) c.loop-fault.intake.lines (rest_of c.loop-fault.intake (g.I.Source.left c.loop-fault.input)) (g.I.Source.left c.one.new.input) (g.I.Source.faults c.loop-fault.input) (g.I.Source.faults c.one.new.input))
    (HasReason (IsRest k.layout none_held none_forked) (lines_room (100000 - c.args.intake.now.lines)) c.args.intake.now.lines (rest_of c.args.intake.now (g.I.Source.left c.args.input.now)) (g.I.Source.left c.one.new.input) (g.I.Source.faults c.args.input.now) (g.I.Source.faults c.one.new.input))
    (λ f h. was.reasons (g.I.Source.left c.one.new.input) (g.I.Source.faults c.one.new.input) f h) c.in-Err.fault c.in-Err.ensures.fault

pub returns-in-Ok-false-clause-reported : goal.returns-in-Ok-false-clause-reported
returns-in-Ok-false-clause-reported g c = same_reported _ _ _ (c.in-Ok-false.ensures.reported.unfailed ∙ c.loop-fault.invariant.unfailed)

pub returns-in-Err-clause-reported : goal.returns-in-Err-clause-reported
returns-in-Err-clause-reported g c = fault_reported _ _ _ c.in-Err.fault c.loop-fault.invariant.unfailed c.in-Err.ensures.reported
