use Rattle.std.proofs.Common.{◌∙◌, ◌++◌, ap, sym, subst, refl, length, length-append, arith}
use Rattle.std.proofs.KnownBytes.{Consumes-trans}
use Rattle.std.specs.Io.KnownBytes.{Consumes}
use Rattle.larch_actions.specs.declared.event.Version.{Version}
use Rattle.trace_core.specs.declared.line.Line.TheVariants as line
use Rattle.trace_core.specs.declared.line.Expect.TheVariants as expect
use Rattle.exact_text.specs.Intake.{rest_of, room_of}
use Rattle.trace_core.specs.Text.{first_line, layout_line}
use Rattle.trace_core.proofs.Outcomes.{after_line, first_lacks, counts_lacks}
use Rattle.trace_core.proofs.Asking.{asked_or_not, first_asks, head_asks}
use Rattle.exact_text.proofs.Reported.{same_reported, fault_reported}
use Rattle.trace_core.proofs.sections.take_head.Goals as goal

pub returns-in-Err-take_line-clause-fault : goal.returns-in-Err-take_line-clause-fault
returns-in-Err-take_line-clause-fault g c =
    let h = c.in-Ok-Head.ensures in
    let taken = rw c.in-Ok-Head.field-0-is at h.line in
    let room = rw c.in-Ok-Head.field-0-is at h.room in
    after_line expect.Head tt (line.Head c.in-Ok-Head.version) tt
    _ (rest_of c.take_line.new.intake (g.I.Source.left c.take_line.new.input)) _ _ _ _ (room_of c.take_line.new.intake) _ (g.I.Source.faults c.take_line.new.input) _
    c.in-Err-take_line.fault taken.1 room h.lines h.reported.later c.in-Err-take_line.ensures.fault

pub returns-in-Err-take_line-clause-lacks : goal.returns-in-Err-take_line-clause-lacks
returns-in-Err-take_line-clause-lacks g c =
    let h = c.in-Ok-Head.ensures in
    let taken = rw c.in-Ok-Head.field-0-is at h.line in
    let room = rw c.in-Ok-Head.field-0-is at h.room in
    counts_lacks c.in-Ok-Head.version _ (rest_of c.take_line.new.intake (g.I.Source.left c.take_line.new.input)) _ _ (room_of c.take_line.new.intake) c.in-Err-take_line.fault taken.1 room c.in-Err-take_line.ensures.lacks

pub returns-in-Err-clause-lacks : goal.returns-in-Err-clause-lacks
returns-in-Err-clause-lacks g c = first_lacks _ _ _ c.in-Err.fault c.in-Err.ensures.lacks

pub returns-in-Err-clause-asks : goal.returns-in-Err-clause-asks
returns-in-Err-clause-asks g c = first_asks c.args.intake.now.window c.in-Err.ensures.asks_first

pub returns-in-Ok-Counts-clause-asks : goal.returns-in-Ok-Counts-clause-asks
returns-in-Ok-Counts-clause-asks g c =
    head_asks c.in-Ok-Head.version c.args.intake.now.window c.take_line.new.intake.window (rw c.in-Ok-Head.field-0-is at c.in-Ok-Head.ensures.asks) (asked_or_not c.in-Ok-Counts.ensures.asks)

pub returns-in-Err-take_line-clause-asks : goal.returns-in-Err-take_line-clause-asks
returns-in-Err-take_line-clause-asks g c =
    head_asks c.in-Ok-Head.version c.args.intake.now.window c.take_line.new.intake.window (rw c.in-Ok-Head.field-0-is at c.in-Ok-Head.ensures.asks) c.in-Err-take_line.ensures.asks_first

pub returns-in-Ok-Counts-clause-reported : goal.returns-in-Ok-Counts-clause-reported
returns-in-Ok-Counts-clause-reported g c = same_reported _ _ _ (c.in-Ok-Counts.ensures.reported.unfailed ∙ c.in-Ok-Head.ensures.reported.unfailed)

pub returns-in-Err-take_line-clause-reported : goal.returns-in-Err-take_line-clause-reported
returns-in-Err-take_line-clause-reported g c = fault_reported _ _ _ c.in-Err-take_line.fault c.in-Ok-Head.ensures.reported.unfailed c.in-Err-take_line.ensures.reported

pub returns-in-Err-clause-reported : goal.returns-in-Err-clause-reported
returns-in-Err-clause-reported g c = fault_reported _ _ _ c.in-Err.fault refl c.in-Err.ensures.reported

pub returns-in-Ok-Counts-clause-layout : goal.returns-in-Ok-Counts-clause-layout
returns-in-Ok-Counts-clause-layout g c =
    let first = rw c.in-Ok-Head.field-0-is at c.in-Ok-Head.ensures.line in
    let counts = rw c.in-Ok-Counts.field-0-is at c.in-Ok-Counts.ensures.line in
    let r = rest_of c.args.intake.now (g.I.Source.left c.args.input.now) in
    let following = rest_of c.take_line-2.new.intake (g.I.Source.left c.take_line-2.new.input) in
    let all = Consumes-trans r (rest_of c.take_line.new.intake (g.I.Source.left c.take_line.new.input)) following _ _ first.1 counts.1 in
    (counts.0.0, subst (λ (v : Version). Consumes r following (first_line v ++ layout_line c.in-Ok-Counts.layout)) (sym counts.0.1) all)

pub returns-in-Ok-Counts-clause-room : goal.returns-in-Ok-Counts-clause-room
returns-in-Ok-Counts-clause-room g c =
    let first = rw c.in-Ok-Head.field-0-is at c.in-Ok-Head.ensures.room in
    let counts = rw c.in-Ok-Counts.field-0-is at c.in-Ok-Counts.ensures.room in
    let is = (rw c.in-Ok-Counts.field-0-is at c.in-Ok-Counts.ensures.line).0.1 in
    let v = c.in-Ok-Counts.layout.version in
    omega (arith, first, counts, ap (λ (v : Version). length (first_line v)) is, length-append (first_line v) (layout_line c.in-Ok-Counts.layout))
