use Rattle.std.proofs.Common.{◌++◌, length, take, subst, arith}
use Rattle.trace_core.specs.Text.{end_line}
use Rattle.trace_core.specs.Whole.{event_lines}
use Rattle.trace_core.proofs.Flowing.{cause_since, Pending, pending_event, pending_fault, pending_last, no_more_events}
use Rattle.trace_core.proofs.whole_texts.put_events.Goals as goal

pub returns-in-Err-clause-err : goal.returns-in-Err-clause-err
returns-in-Err-clause-err g c = pending_fault _ _ _ _ _ _ c.loop-i.invariant.pending c.in-Err.ensures.err

pub loop-i-preserved : goal.loop-i-preserved
loop-i-preserved g c = record {
  pending = pending_event _ (g.O.Sink.held c.loop-i.out) _ c.args.events.now c.loop-i.i _ (take c.loop-i.last c.loop-i.buf) (take c.in-Ok.free c.loop-i.buf) _ _ (end_line (length c.args.events.now)) c.loop-i-test.true c.loop-i.invariant.pending c.in-Ok.ensures.ok c.add_event-last.ensures.text;
  within = omega (arith, c.add_event-last.ensures.near, c.in-Ok.ensures.room, c.add_event-last.auto.buf);
  later = omega (arith, c.loop-i.invariant.later, c.in-Ok.ensures.cause.later);
}

pub returns-in-Ok-make_room-clause-ok : goal.returns-in-Ok-make_room-clause-ok
returns-in-Ok-make_room-clause-ok g c =
    let es = c.args.events.now in
    let end = end_line (length es) in
    let first = g.O.Sink.held c.args.out.now in
    let now = g.O.Sink.held c.loop-i.out in
    let before = take c.args.at c.args.buf.now in
    let held = take c.loop-i.last c.loop-i.buf in
    let text = event_lines 0 es ++ end in
    let left = subst (Pending first now held (before ++ text)) (no_more_events es c.loop-i.i end c.loop-i-test.false) c.loop-i.invariant.pending in
    pending_last first now (g.O.Sink.held c.make_room-2.new.out) before held (take c.in-Ok-make_room.free c.loop-i.buf) _ text end left c.in-Ok-make_room.ensures.ok c.add_end.ensures.text

pub returns-in-Err-make_room-clause-err : goal.returns-in-Err-make_room-clause-err
returns-in-Err-make_room-clause-err g c = pending_fault _ _ _ _ _ _ c.loop-i.invariant.pending c.in-Err-make_room.ensures.err

pub returns-in-Err-clause-cause : goal.returns-in-Err-clause-cause
returns-in-Err-clause-cause g c = cause_since (g.O.Sink.faults c.args.out.now) (g.O.Sink.faults c.loop-i.out) (g.O.Sink.faults c.make_room.new.out) c.in-Err.fault c.loop-i.invariant.later c.in-Err.ensures.cause

pub returns-in-Err-make_room-clause-cause : goal.returns-in-Err-make_room-clause-cause
returns-in-Err-make_room-clause-cause g c = cause_since (g.O.Sink.faults c.args.out.now) (g.O.Sink.faults c.loop-i.out) (g.O.Sink.faults c.make_room-2.new.out) c.in-Err-make_room.fault c.loop-i.invariant.later c.in-Err-make_room.ensures.cause
