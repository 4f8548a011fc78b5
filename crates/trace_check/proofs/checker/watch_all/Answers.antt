use Rattle.std.proofs.Common.{◌∙◌, refl, sym, subst, arith}
use Rattle.larch_actions.specs.Layout.{HasNames}
use Rattle.trace_check.specs.declared.checker.Summary.{Summary}
use Rattle.trace_check.proofs.UnderWay.{head_fault, fault_on, fails_on, ends_on, few}
use Rattle.trace_check.proofs.Watched.{watching_starts, watching_goes, next_is, stopped_starts, stopped_goes, seen_legal, seen_illegal, seen_cut}
use Rattle.trace_check.proofs.Prefixes.{event_line_some}
use Rattle.trace_check.proofs.checker.watch_all.Goals as goal

pub begin-requires : goal.begin-requires
begin-requires g c = c.in-Ok.ensures.head.lawful

pub returns-in-Err-begin-clause-stopped : goal.returns-in-Err-begin-clause-stopped
returns-in-Err-begin-clause-stopped g c =
    stopped_starts g.W.Watch.keeps _ _ _ _ g.W.Watch.stops _ _ c.in-Ok.layout c.new-state.result _ _ c.in-Err-begin.stop refl refl c.requires.lines c.in-Ok.ensures.head c.head.ensures.later c.new-state.ensures.layout c.new-state.ensures.first c.in-Err-begin.ensures.stopped

pub loop-event-init : goal.loop-event-init
loop-event-init g c = record {
  watching = watching_starts g.W.Watch.keeps _ _ _ _ _ _ c.in-Ok.layout c.new-state.result _ _ refl refl c.requires.lines c.in-Ok.ensures.head c.head.ensures.later c.new-state.ensures.layout c.new-state.ensures.first c.in_default.ensures.kept;
  same_input = c.head.ensures.same_input;
  unfailed = c.in-Ok.ensures.unfailed;
  later = c.head.ensures.later;
}

pub apply-requires : goal.apply-requires
apply-requires g c =
    let u = c.loop-event.invariant.watching.under_way in
    let taken = rw c.in-Ok-Some.field-0-is at (c.in-Ok-Some.ensures.event u.phase) in
    subst (λ l. HasNames l c.in-Ok-Some.event) (sym u.layout) taken.names

pub see-requires : goal.see-requires
see-requires g c =
    let n = c.loop-event.invariant.watching in
    let taken = rw c.in-Ok-Some.field-0-is at (c.in-Ok-Some.ensures.event n.under_way.phase) in
    (c.args.watcher.now, c.in-Ok.layout, n.under_way.events, n.kept, next_is g.W.Watch.keeps _ _ _ _ _ _ _ _ _ _ n _ c.in-Ok-Some.event _ taken c.in-Ok-apply.ensures.ok)

pub returns-in-Err-see-clause-stopped : goal.returns-in-Err-see-clause-stopped
returns-in-Err-see-clause-stopped g c =
    let n = c.loop-event.invariant.watching in
    let taken = rw c.in-Ok-Some.field-0-is at (c.in-Ok-Some.ensures.event n.under_way.phase) in
    let next = next_is g.W.Watch.keeps _ _ _ _ _ _ _ _ _ _ n _ c.in-Ok-Some.event _ taken c.in-Ok-apply.ensures.ok in
    stopped_goes g.W.Watch.keeps _ _ _ _ _ _ _ _ _ _ n g.W.Watch.stops _ _ c.apply.new.self c.in-Ok-Some.event _ c.in-Err-see.stop c.requires.fits taken c.in-Ok-apply.ensures.ok c.apply.ensures.layout c.next_event.ensures.later
    (c.in-Err-see.ensures.stopped c.args.watcher.now c.in-Ok.layout n.under_way.events n.kept next)

pub loop-event-smaller : goal.loop-event-smaller
loop-event-smaller g c =
    let u = c.loop-event.invariant.watching.under_way in
    let taken = rw c.in-Ok-Some.field-0-is at (c.in-Ok-Some.ensures.event u.phase) in
    omega (arith, taken.passes.room, event_line_some c.loop-event.reader.progress.place c.in-Ok-Some.event)

pub loop-event-preserved : goal.loop-event-preserved
loop-event-preserved g c =
    let n = c.loop-event.invariant.watching in
    let taken = rw c.in-Ok-Some.field-0-is at (c.in-Ok-Some.ensures.event n.under_way.phase) in
    let next = next_is g.W.Watch.keeps _ _ _ _ _ _ _ _ _ _ n _ c.in-Ok-Some.event _ taken c.in-Ok-apply.ensures.ok in
    record {
      watching = watching_goes g.W.Watch.keeps _ _ _ _ _ _ _ _ _ _ n _ _ c.apply.new.self c.in-Ok-Some.event _ c.requires.fits taken c.in-Ok-apply.ensures.ok c.apply.ensures.layout c.next_event.ensures.later
          (c.in_default-see.ensures.kept c.args.watcher.now c.in-Ok.layout n.under_way.events n.kept next);
      same_input = c.next_event.ensures.same_input ∙ c.loop-event.invariant.same_input;
      unfailed = c.in-Ok-Some.ensures.unfailed ∙ c.loop-event.invariant.unfailed;
      later = omega (arith, c.next_event.ensures.later, c.loop-event.invariant.later);
    }

pub returns-in-Err-apply-clause-just : goal.returns-in-Err-apply-clause-just
returns-in-Err-apply-clause-just g c =
    let u = c.loop-event.invariant.watching.under_way in
    let taken = rw c.in-Ok-Some.field-0-is at (c.in-Ok-Some.ensures.event u.phase) in
    fails_on _ _ _ _ _ _ _ _ c.in-Ok-Some.event c.in-Err-apply.why u taken c.in-Err-apply.ensures.refused

pub returns-in-Err-apply-clause-watched : goal.returns-in-Err-apply-clause-watched
returns-in-Err-apply-clause-watched g c =
    let n = c.loop-event.invariant.watching in
    let taken = rw c.in-Ok-Some.field-0-is at (c.in-Ok-Some.ensures.event n.under_way.phase) in
    seen_illegal g.W.Watch.keeps _ _ _ _ _ _ _ _ _ _ n _ c.in-Ok-Some.event c.in-Err-apply.why taken c.in-Err-apply.ensures.refused

pub returns-in-Ok-None-clause-just : goal.returns-in-Ok-None-clause-just
returns-in-Ok-None-clause-just g c =
    let u = c.loop-event.invariant.watching.under_way in
    let taken = rw c.in-Ok-None.field-0-is at (c.in-Ok-None.ensures.end u.phase) in
    let sums = c.summary-totals.ensures in
    let s : Summary = record { events = c.loop-event.events; held = c.summary-totals.result.held; waiting = c.summary-totals.result.waiting; alerted = c.summary-totals.result.alerted } in
    rw c.legal.ensures (ends_on _ _ _ _ _ _ _ _ s c.requires.fits u taken refl sums.held sums.waiting sums.alerted)

pub returns-in-Ok-None-clause-watched : goal.returns-in-Ok-None-clause-watched
returns-in-Ok-None-clause-watched g c =
    let n = c.loop-event.invariant.watching in
    let taken = rw c.in-Ok-None.field-0-is at (c.in-Ok-None.ensures.end n.under_way.phase) in
    let sums = c.summary-totals.ensures in
    let s : Summary = record { events = c.loop-event.events; held = c.summary-totals.result.held; waiting = c.summary-totals.result.waiting; alerted = c.summary-totals.result.alerted } in
    rw c.legal.ensures (seen_legal g.W.Watch.keeps _ _ _ _ _ _ _ _ _ _ n _ s c.requires.fits taken refl sums.held sums.waiting sums.alerted)

pub returns-in-Err-clause-just : goal.returns-in-Err-clause-just
returns-in-Err-clause-just g c =
    rw c.verdict_of.ensures (head_fault _ _ _ _ _ c.in-Err.fault (rw c.requires.lines at c.in-Err.ensures.fault.reason) c.in-Err.ensures.fault.lacks)

pub returns-in-Err-next_event-clause-just : goal.returns-in-Err-next_event-clause-just
returns-in-Err-next_event-clause-just g c =
    let u = c.loop-event.invariant.watching.under_way in
    let h = c.in-Err-next_event.ensures in
    rw c.verdict_of-in-Err-next_event.ensures (fault_on _ _ _ _ _ _ _ _ _ _ c.in-Err-next_event.fault c.requires.fits u (h.fault u.phase))

pub returns-in-Err-next_event-clause-watched : goal.returns-in-Err-next_event-clause-watched
returns-in-Err-next_event-clause-watched g c =
    let n = c.loop-event.invariant.watching in
    rw c.verdict_of-in-Err-next_event.ensures (seen_cut g.W.Watch.keeps _ _ _ _ _ _ _ _ _ _ n c.in-Err-next_event.fault)

pub overflow_add-events : goal.overflow_add-events
overflow_add-events g c = omega (arith, few _ _ _ _ _ _ _ c.loop-event.invariant.watching.under_way, c.requires.fits)

pub returns-in-Err-clause-watched : goal.returns-in-Err-clause-watched
returns-in-Err-clause-watched g c = (refl, refl, (c.in-Err.fault, c.verdict_of.ensures))
