use Rattle.std.proofs.Common.{take, arith}
use Rattle.trace_core.specs.Whole.{numbered}
use Rattle.trace_core.proofs.Flowing.{cause_since, cause_of}
use Rattle.trace_core.proofs.Ends.{on_ok, on_err}
use Rattle.trace_core.proofs.Wholes.{whole_put, events_fault, values_fault, last_fault}
use Rattle.trace_core.proofs.laws.put_whole.Goals as goal

pub returns-in-Err-clause-err : goal.returns-in-Err-clause-err
returns-in-Err-clause-err g c =
    events_fault c.args.layout.now c.args.events.now (numbered 0 c.args.values.now) (g.O.Sink.held c.args.out.now) (g.O.Sink.held c.put_events.new.out) (take c.add_head-at.result c.add_head-at.new.buf) c.add_head-at.ensures.text c.in-Err.ensures.err

pub returns-in-Err-put_values-clause-err : goal.returns-in-Err-put_values-clause-err
returns-in-Err-put_values-clause-err g c =
    values_fault c.args.layout.now c.args.events.now (numbered 0 c.args.values.now) (g.O.Sink.held c.args.out.now) (g.O.Sink.held c.put_events.new.out) (g.O.Sink.held c.put_values.new.out) (take c.add_head-at.result c.add_head-at.new.buf) (take c.in-Ok.end c.put_events.new.buf) c.add_head-at.ensures.text
    c.in-Ok.ensures.ok c.in-Err-put_values.ensures.err

pub returns-clause-ok : goal.returns-clause-ok
returns-clause-ok g c =
    on_ok c.put_all.result
    (whole_put c.args.layout.now c.args.events.now (numbered 0 c.args.values.now) (g.O.Sink.held c.args.out.now) (g.O.Sink.held c.put_events.new.out) (g.O.Sink.held c.put_values.new.out) (g.O.Sink.held c.put_all.new.out) (take c.add_head-at.result c.add_head-at.new.buf) (take c.in-Ok.end c.put_events.new.buf) _ c.add_head-at.ensures.text
    c.in-Ok.ensures.ok c.in-Ok-put_values.ensures.ok)
    c.put_all.ensures.ok

pub returns-clause-err : goal.returns-clause-err
returns-clause-err g c =
    on_err c.put_all.result
    (last_fault c.args.layout.now c.args.events.now (numbered 0 c.args.values.now) (g.O.Sink.held c.args.out.now) (g.O.Sink.held c.put_events.new.out) (g.O.Sink.held c.put_values.new.out) (g.O.Sink.held c.put_all.new.out) (take c.add_head-at.result c.add_head-at.new.buf) (take c.in-Ok.end c.put_events.new.buf) _ c.add_head-at.ensures.text
    c.in-Ok.ensures.ok c.in-Ok-put_values.ensures.ok)
    c.put_all.ensures.err

pub returns-in-Err-put_values-clause-cause : goal.returns-in-Err-put_values-clause-cause
returns-in-Err-put_values-clause-cause g c = cause_since (g.O.Sink.faults c.args.out.now) (g.O.Sink.faults c.put_events.new.out) (g.O.Sink.faults c.put_values.new.out) c.in-Err-put_values.fault c.in-Ok.ensures.cause.later c.in-Err-put_values.ensures.cause

pub returns-clause-cause : goal.returns-clause-cause
returns-clause-cause g c = cause_of (g.O.Sink.faults c.args.out.now) (g.O.Sink.faults c.put_values.new.out) (g.O.Sink.faults c.put_all.new.out) c.put_all.result (omega (arith, c.in-Ok.ensures.cause.later, c.in-Ok-put_values.ensures.cause.later)) c.put_all.ensures.cause
