use Rattle.std.proofs.Common.{arith}
use Rattle.exact_text.specs.Intake.{rest_of, room_of}
use Rattle.larch_actions.specs.declared.event.Version.TheVariants.{Two}
use Rattle.script_text.specs.declared.heads.Start.TheVariants as start
use Rattle.script_text.proofs.Readable.{start_readable, layout_readable}
use Rattle.script_text.proofs.Reading.{first_why, second_why}
use Rattle.script_text.proofs.read.head.Goals as goal

pub take_line-requires : goal.take_line-requires
take_line-requires g c = start_readable

pub take_line-requires-in-Ok-Second : goal.take_line-requires-in-Ok-Second
take_line-requires-in-Ok-Second g c = layout_readable Two

pub returns-in-Ok-Layout-clause-room : goal.returns-in-Ok-Layout-clause-room
returns-in-Ok-Layout-clause-room g c =
    let h = c.in-Ok-Layout.ensures in
    let taken = rw c.in-Ok-Layout.field-0-is at h.line in
    let room = rw c.in-Ok-Layout.field-0-is at h.room in
    omega (arith, room, (start_readable.lines (start.Layout c.in-Ok-Layout.layout) taken.0).1)

pub returns-in-Ok-clause-room : goal.returns-in-Ok-clause-room
returns-in-Ok-clause-room g c =
    let h = c.in-Ok-Second.ensures in
    let room = rw c.in-Ok-Second.field-0-is at h.room in
    let next = c.in-Ok.ensures in
    omega (arith, room, (start_readable.lines start.Second tt).1, next.room, ((layout_readable Two).lines c.in-Ok.layout next.line.0).1)

pub returns-in-Err-take_line-clause-fault : goal.returns-in-Err-take_line-clause-fault
returns-in-Err-take_line-clause-fault g c =
    let h = c.in-Ok-Second.ensures in
    let taken = rw c.in-Ok-Second.field-0-is at h.line in
    let room = rw c.in-Ok-Second.field-0-is at h.room in
    second_why (rest_of c.args.intake.now (g.I.Source.left c.args.input.now)) (rest_of c.take_line.new.intake (g.I.Source.left c.take_line.new.input)) (g.I.Source.left c.take_line-in-Ok-Second.new.input) c.take_line.new.intake.lines (room_of c.take_line.new.intake)
    (g.I.Source.faults c.args.input.now) (g.I.Source.faults c.take_line.new.input) (g.I.Source.faults c.take_line-in-Ok-Second.new.input) c.in-Err-take_line.fault (omega (arith, h.lines, c.requires.fresh)) (omega (arith, room, (start_readable.lines start.Second tt).1, c.requires.room)) taken.1 h.reported.later
    c.in-Err-take_line.ensures.fault

pub returns-in-Err-clause-fault : goal.returns-in-Err-clause-fault
returns-in-Err-clause-fault g c =
    first_why (rest_of c.args.intake.now (g.I.Source.left c.args.input.now)) (g.I.Source.left c.take_line.new.input) c.args.intake.now.lines (room_of c.args.intake.now) (g.I.Source.faults c.args.input.now) (g.I.Source.faults c.take_line.new.input) c.in-Err.fault c.requires.fresh
    (omega (arith, c.requires.room)) c.in-Err.ensures.fault
