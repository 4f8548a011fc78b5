use Rattle.std.specs.Option.{option_copied}
use Rattle.std.proofs.Common.{refl}
use Rattle.exact_text.proofs.Reported.{same_reported, fault_reported}
use Rattle.index_text.specs.Next.{SaysPath}
use Rattle.index_text.proofs.LineCodes.{skipped_code}
use Rattle.index_text.proofs.Stopping.{waits, waits_on, line_taken, line_stuck}
use Rattle.index_text.proofs.Begun.{line_awaits}
use Rattle.index_text.proofs.next.next_skipped.Goals as goal

pub loop-stop-init : goal.loop-stop-init
loop-stop-init g c = waits c.args.intake.now (g.I.Source.left c.args.input.now) (g.I.Source.faults c.args.input.now)

pub returns-in-Ok-clause-taken : goal.returns-in-Ok-clause-taken
returns-in-Ok-clause-taken g c =
    line_taken c.loop-stop.invariant (skipped_code (option_copied c.args.last) c.requires) (SaysPath c.try_skipped.new.out.items) c.try_skipped.new.intake tt c.in-Ok.ensures (g.I.Source.faults c.loop-stop.input)

pub returns-in-Ok-clause-reported : goal.returns-in-Ok-clause-reported
returns-in-Ok-clause-reported g c = same_reported _ _ _ c.loop-stop.invariant.unfailed

pub returns-in-Err-after_stop-clause-taken : goal.returns-in-Err-after_stop-clause-taken
returns-in-Err-after_stop-clause-taken g c =
    line_stuck c.loop-stop.invariant (skipped_code (option_copied c.args.last) c.requires) (SaysPath c.try_skipped.new.out.items) c.try_skipped.new.intake c.after_stop.new.intake (g.I.Source.left c.after_stop.new.input) (g.I.Source.faults c.after_stop.new.input)
    c.in-Err.stop c.in-Err-after_stop.fault c.in-Err.ensures.0 c.in-Err.ensures.1 c.in-Err-after_stop.ensures.goes_on

pub returns-in-Err-after_stop-clause-reported : goal.returns-in-Err-after_stop-clause-reported
returns-in-Err-after_stop-clause-reported g c = fault_reported _ _ _ c.in-Err-after_stop.fault c.loop-stop.invariant.unfailed c.in-Err-after_stop.ensures.reported

pub returns-in-Err-await_skipped-clause-taken : goal.returns-in-Err-await_skipped-clause-taken
returns-in-Err-await_skipped-clause-taken g c =
    line_awaits (skipped_code (option_copied c.args.last) c.requires) (SaysPath c.try_skipped.new.out.items) refl c.args.intake.now c.await_skipped.new.intake (g.I.Source.left c.await_skipped.new.input) (g.I.Source.faults c.args.input.now) (g.I.Source.faults c.await_skipped.new.input)
    c.after_stop.new.intake (g.I.Source.left c.args.input.now) (g.I.Source.left c.after_stop.new.input) (g.I.Source.faults c.after_stop.new.input) c.in-Err-await_skipped.fault
    (waits_on c.loop-stop.invariant c.try_skipped.new.intake c.after_stop.new.intake (g.I.Source.left c.after_stop.new.input) (g.I.Source.faults c.after_stop.new.input) c.in-Err.stop c.in-Err.ensures.1
    c.in-Ok-after_stop.ensures.goes_on c.in-Ok-after_stop.ensures.reported.unfailed) c.in-Err-await_skipped.ensures.awaits
