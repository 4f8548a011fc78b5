use Rattle.std.specs.Option.{option_copied}
use Rattle.std.proofs.Common.{refl, []}
use Rattle.exact_text.proofs.Reported.{same_reported, fault_reported}
use Rattle.index_text.specs.Next.{SaysHeading}
use Rattle.index_text.proofs.LineCodes.{heading_code}
use Rattle.index_text.proofs.Stopping.{waits, waits_on, line_taken, line_stuck}
use Rattle.index_text.proofs.Begun.{line_awaits, heading_begun}
use Rattle.index_text.proofs.next.next_heading.Goals as goal

pub loop-prefix-init : goal.loop-prefix-init
loop-prefix-init g c = waits c.args.intake.now (g.I.Source.left c.args.input.now) (g.I.Source.faults c.args.input.now)

pub returns-in-Ok-clause-taken : goal.returns-in-Ok-clause-taken
returns-in-Ok-clause-taken g c =
    line_taken c.loop-prefix.invariant (heading_code (option_copied c.args.last) c.requires) (SaysHeading c.try_heading.new.out.items) c.try_heading.new.intake c.in-Ok.prefix c.in-Ok.ensures (g.I.Source.faults c.loop-prefix.input)

pub returns-in-Ok-clause-reported : goal.returns-in-Ok-clause-reported
returns-in-Ok-clause-reported g c = same_reported _ _ _ c.loop-prefix.invariant.unfailed

pub returns-in-Err-after_stop-clause-taken : goal.returns-in-Err-after_stop-clause-taken
returns-in-Err-after_stop-clause-taken g c =
    line_stuck c.loop-prefix.invariant (heading_code (option_copied c.args.last) c.requires) (SaysHeading c.try_heading.new.out.items) c.try_heading.new.intake c.after_stop.new.intake (g.I.Source.left c.after_stop.new.input) (g.I.Source.faults c.after_stop.new.input)
    c.in-Err.stop c.in-Err-after_stop.fault c.in-Err.ensures.0 c.in-Err.ensures.1 c.in-Err-after_stop.ensures.goes_on

pub returns-in-Err-after_stop-clause-reported : goal.returns-in-Err-after_stop-clause-reported
returns-in-Err-after_stop-clause-reported g c = fault_reported _ _ _ c.in-Err-after_stop.fault c.loop-prefix.invariant.unfailed c.in-Err-after_stop.ensures.reported

pub returns-in-Err-await_heading-clause-taken : goal.returns-in-Err-await_heading-clause-taken
returns-in-Err-await_heading-clause-taken g c =
    line_awaits (heading_code (option_copied c.args.last) c.requires) (SaysHeading c.try_heading.new.out.items) (heading_begun (option_copied c.args.last) c.requires [] refl) c.args.intake.now c.await_heading.new.intake (g.I.Source.left c.await_heading.new.input) (g.I.Source.faults c.args.input.now) (g.I.Source.faults c.await_heading.new.input)
    c.after_stop.new.intake (g.I.Source.left c.args.input.now) (g.I.Source.left c.after_stop.new.input) (g.I.Source.faults c.after_stop.new.input) c.in-Err-await_heading.fault
    (waits_on c.loop-prefix.invariant c.try_heading.new.intake c.after_stop.new.intake (g.I.Source.left c.after_stop.new.input) (g.I.Source.faults c.after_stop.new.input) c.in-Err.stop c.in-Err.ensures.1
    c.in-Ok-after_stop.ensures.goes_on c.in-Ok-after_stop.ensures.reported.unfailed) c.in-Err-await_heading.ensures.awaits
