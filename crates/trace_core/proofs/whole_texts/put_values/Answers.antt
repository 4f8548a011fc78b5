use Rattle.std.proofs.Common.{◌++◌, take, subst, refl, arith}
use Rattle.trace_core.specs.Text.{values_text}
use Rattle.trace_core.specs.Whole.{numbered}
use Rattle.trace_core.proofs.Flowing.{cause_since, Pending, pending_value, pending_fault, pending_done, no_more_values}
use Rattle.trace_core.proofs.whole_texts.put_values.Goals as goal

pub returns-in-Err-clause-err : goal.returns-in-Err-clause-err
returns-in-Err-clause-err g c = pending_fault _ _ _ _ _ _ c.loop-k.invariant.pending c.in-Err.ensures.err

pub loop-k-preserved : goal.loop-k-preserved
loop-k-preserved g c = record {
  pending = pending_value _ (g.O.Sink.held c.loop-k.out) _ c.args.values.now c.loop-k.k (take c.loop-k.last c.loop-k.buf) (take c.in-Ok.free c.loop-k.buf) _ _ c.loop-k-test.true c.loop-k.invariant.pending c.in-Ok.ensures.ok c.add_value-last.ensures.text;
  within = omega (arith, c.add_value-last.ensures.near, c.in-Ok.ensures.room, c.add_value-last.auto.buf);
  later = omega (arith, c.loop-k.invariant.later, c.in-Ok.ensures.cause.later);
}

pub returns-clause-ok : goal.returns-clause-ok
returns-clause-ok g c =
    let text = values_text (numbered 0 c.args.values.now) in
    let before = take c.args.at c.args.buf.now in
    let first = g.O.Sink.held c.args.out.now in
    let now = g.O.Sink.held c.loop-k.out in
    let held = take c.loop-k.last c.loop-k.buf in
    pending_done first now before held text (before ++ text) refl (subst (Pending first now held (before ++ text)) (no_more_values c.args.values.now c.loop-k.k c.loop-k-test.false) c.loop-k.invariant.pending)

pub returns-in-Err-clause-cause : goal.returns-in-Err-clause-cause
returns-in-Err-clause-cause g c = cause_since (g.O.Sink.faults c.args.out.now) (g.O.Sink.faults c.loop-k.out) (g.O.Sink.faults c.make_room.new.out) c.in-Err.fault c.loop-k.invariant.later c.in-Err.ensures.cause
