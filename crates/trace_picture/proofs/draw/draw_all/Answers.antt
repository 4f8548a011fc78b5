use Rattle.std.proofs.Common.{◌≡◌, ◌≤◌, ℕ, Bool, true, false, cond, List, ◌∷◌, Result, Ok, Err, inl, inr, ◌-◌, ◌^◌, ◌<◌, ◌++◌, [], length, length-append, take, refl, ap, sym, subst, ◌∙◌, arith}
use Rattle.larch_actions.specs.declared.event.Event.{Event}
use Rattle.trace_shapes.specs.Places.{in_view}
use Rattle.firefly_outside.specs.Causes.{HasCause}
use Rattle.larch_actions.specs.Layout.{HasNames}
use Rattle.trace_check.proofs.UnderWay.{head_fault, fault_on, fails_on, ends_on}
use Rattle.trace_check.proofs.Prefixes.{event_line_some}
use Rattle.trace_core.specs.Reader.{standing}
use Rattle.trace_picture.specs.Shown.{drawn_of}
use Rattle.trace_picture.specs.Picture.{head_text}
use Rattle.larch_actions.specs.State.{spec_of}
use Rattle.lock_order.proofs.Reading.{has_place}
use Rattle.trace_board.proofs.Noting.{noted}
use Rattle.trace_picture.proofs.Ringing.{ringing_starts, ringing_steps}
use Rattle.trace_picture.proofs.Drawing.{drawing_few, drawing_low, drawing_kept, step_cut, all_whole, failing_whole, held_flow, headless_drawn, room_cut, refused_got, refused_cut, legal_got, legal_cut, failed_got, failed_room_cut, failed_cut, take_none}
use Rattle.trace_picture.proofs.draw.draw_all.Goals as goal

-- a fault since a later count is one since the earlier
cause_after : {T S E : Type 0} (a b n : ℕ) (e f : E) → a ≤ b → HasCause b n (let r : Result T E = Err e in r) → HasCause a n (let r : Result S E = Err f in r)
cause_after a b n e f le h = record {
  later = omega (arith, h.later);
  failed =
      elim h.failed [
        | inl m ↦ inl (omega arith)
        | inr m ↦ inr m
      ];
}

-- no fault where the sink took all
cause_on : {T E : Type 0} (a b n m : ℕ) (v : T) → a ≤ b → b ≤ n → n ≤ m → HasCause a m (let r : Result T E = Ok v in r)
cause_on a b n m v le near last = record { later = omega arith; failed = tt }

pub returns-in-Err-clause-just : goal.returns-in-Err-clause-just
returns-in-Err-clause-just g c =
    rw c.verdict_of.ensures (head_fault _ _ _ _ _ c.in-Err.fault (rw c.requires.lines at c.in-Err.ensures.fault.reason) c.in-Err.ensures.fault.lacks)

pub returns-in-Err-clause-drawn : goal.returns-in-Err-clause-drawn
returns-in-Err-clause-drawn g c = rw c.verdict_of.ensures (headless_drawn _ _ _ _ c.in-Err.fault)

pub loop-event-init : goal.loop-event-init
loop-event-init g c =
    let text : take c.add_head-at.result c.add_head-at.new.buf ≡ [] ++ head_text c.in-Ok.layout = c.add_head-at.ensures.text ∙ ap (λ x. x ++ head_text c.in-Ok.layout) (take_none c.args.buf.now) in
    record {
      ringing = ringing_starts _ _ _ _ _ _ c.in-Ok.layout c.new-state.result c.args.view.now (g.O.Sink.held c.args.out.now) (take c.add_head-at.result c.add_head-at.new.buf) (drawn_of c.new-drawing.result) c.new-kept.result c.args.view.now.ordered c.args.graph.now refl refl c.requires.lines c.in-Ok.ensures.head c.head.ensures.later c.new-state.ensures.layout c.new-state.ensures.first text c.new-drawing.ensures c.new-kept.ensures c.requires.empty;
      laid = sym c.in-Ok.ensures.head.layout;
      within = omega (arith, c.add_head-at.ensures.near, c.requires.large, c.add_head-at.auto.buf);
      same_input = c.head.ensures.same_input;
      unfailed = c.in-Ok.ensures.unfailed;
      later = c.head.ensures.later;
      sunk = omega arith;
    }

pub returns-in-Err-draw_on-clause-cut_off : goal.returns-in-Err-draw_on-clause-cut_off
returns-in-Err-draw_on-clause-cut_off g c =
    let i = c.loop-event.invariant in
    let u = i.ringing.drawing.under_way in
    let fits : (standing g.I.Source.left c.args.reader.now).room < 2 ^ 64 - 1 = omega (arith, c.requires.fits) in
    let taken = rw c.in-Ok-Some.field-0-is at (c.in-Ok-Some.ensures.event u.phase) in
    step_cut _ _ _ _ _ _ _ _ _ _ _ _ _ i.ringing.drawing (g.O.Sink.held c.draw_on.new.out) c.in-Ok.layout i.laid _ _ c.apply.new.self c.in-Ok-Some.event fits taken c.in-Ok-apply.ensures.ok c.apply.ensures.layout c.next_event.ensures.later c.in-Err-draw_on.ensures.err

pub draw_on-requires-clause-few : goal.draw_on-requires-clause-few
draw_on-requires-clause-few g c = omega (arith, drawing_few _ _ _ _ _ _ _ _ _ _ _ _ _ c.loop-event.invariant.ringing.drawing, c.requires.fits)

pub loop-event-smaller : goal.loop-event-smaller
loop-event-smaller g c =
    let u = c.loop-event.invariant.ringing.drawing.under_way in
    let taken = rw c.in-Ok-Some.field-0-is at (c.in-Ok-Some.ensures.event u.phase) in
    omega (arith, taken.passes.room, event_line_some c.loop-event.reader.progress.place c.in-Ok-Some.event)

pub loop-event-preserved : goal.loop-event-preserved
loop-event-preserved g c =
    let i = c.loop-event.invariant in
    let u = i.ringing.drawing.under_way in
    let fits : (standing g.I.Source.left c.args.reader.now).room < 2 ^ 64 - 1 = omega (arith, c.requires.fits) in
    let taken = rw c.in-Ok-Some.field-0-is at (c.in-Ok-Some.ensures.event u.phase) in
    record {
      ringing = ringing_steps _ _ _ _ _ _ _ _ _ _ _ _ _ _ _ i.ringing _ _ c.apply.new.self c.in-Ok-Some.event (g.O.Sink.held c.draw_on.new.out) (take c.in-Ok-draw_on.end c.draw_on.new.buf) (drawn_of c.draw_on.new.drawing) c.draw_on.new.kept c.note_if.new.graph c.in-Ok.layout i.laid fits taken c.in-Ok-apply.ensures.ok c.apply.ensures.layout c.next_event.ensures.later c.in-Ok-draw_on.ensures.ok c.in-Ok-draw_on.ensures.drawn c.in-Ok-draw_on.ensures.kept c.in-Ok-draw_on.ensures.low c.note_if.ensures;
      laid = i.laid ∙ sym taken.layout;
      within = c.in-Ok-draw_on.ensures.within;
      same_input = c.next_event.ensures.same_input ∙ i.same_input;
      unfailed = c.in-Ok-Some.ensures.unfailed ∙ i.unfailed;
      later = omega (arith, c.next_event.ensures.later, i.later);
      sunk = omega (arith, i.sunk, c.draw_on.ensures.cause.later);
    }

pub end_failed-requires-clause-few : goal.end_failed-requires-clause-few
end_failed-requires-clause-few g c = omega (arith, drawing_few _ _ _ _ _ _ _ _ _ _ _ _ _ c.loop-event.invariant.ringing.drawing, c.requires.fits)

pub end_legal-requires-clause-few : goal.end_legal-requires-clause-few
end_legal-requires-clause-few g c = omega (arith, drawing_few _ _ _ _ _ _ _ _ _ _ _ _ _ c.loop-event.invariant.ringing.drawing, c.requires.fits)

pub end_cut-requires-clause-few : goal.end_cut-requires-clause-few
end_cut-requires-clause-few g c = omega (arith, drawing_few _ _ _ _ _ _ _ _ _ _ _ _ _ c.loop-event.invariant.ringing.drawing, c.requires.fits)

pub returns-in-Ok-end_failed-clause-just : goal.returns-in-Ok-end_failed-clause-just
returns-in-Ok-end_failed-clause-just g c =
    let u = c.loop-event.invariant.ringing.drawing.under_way in
    let taken = rw c.in-Ok-Some.field-0-is at (c.in-Ok-Some.ensures.event u.phase) in
    fails_on _ _ _ _ _ _ _ _ c.in-Ok-Some.event c.in-Err-apply.why u taken c.in-Err-apply.ensures.refused

pub returns-in-Ok-end_failed-clause-drawn : goal.returns-in-Ok-end_failed-clause-drawn
returns-in-Ok-end_failed-clause-drawn g c =
    let i = c.loop-event.invariant in
    let d = i.ringing.drawing in
    let taken = rw c.in-Ok-Some.field-0-is at (c.in-Ok-Some.ensures.event d.under_way.phase) in
    let w = failing_whole _ _ _ _ _ _ _ _ _ _ _ _ _ d (g.O.Sink.held c.draw_rest.new.out) c.in-Ok.layout i.laid (take c.in-Ok-draw_rest.free c.draw_rest.new.buf) (drawn_of c.draw_rest.new.drawing) c.keep_failing.new.kept c.len-count.result _ c.len-count.ensures.count refl c.in-Ok-Some.event c.keep_failing.ensures (g.O.Sink.held c.draw_rest.new.out) c.in-Ok-draw_rest.ensures.ok c.in-Ok-draw_rest.ensures.kept in
    failed_got _ _ _ _ _ _ _ _ _ _ _ _ _ c.in-Ok-Some.event c.in-Err-apply.why (record { under_way = d.under_way; flows = w.0; kept_is = w.1 }) _ (g.O.Sink.held c.end_failed.new.out) c.in-Ok.layout i.laid taken c.in-Err-apply.ensures.refused refl c.in-Ok-end_failed.ensures.ok

pub returns-in-Err-end_failed-clause-cut_off : goal.returns-in-Err-end_failed-clause-cut_off
returns-in-Err-end_failed-clause-cut_off g c =
    let i = c.loop-event.invariant in
    let d = i.ringing.drawing in
    let w = failing_whole _ _ _ _ _ _ _ _ _ _ _ _ _ d (g.O.Sink.held c.draw_rest.new.out) c.in-Ok.layout i.laid (take c.in-Ok-draw_rest.free c.draw_rest.new.buf) (drawn_of c.draw_rest.new.drawing) c.keep_failing.new.kept c.len-count.result _ c.len-count.ensures.count refl c.in-Ok-Some.event c.keep_failing.ensures (g.O.Sink.held c.draw_rest.new.out) c.in-Ok-draw_rest.ensures.ok c.in-Ok-draw_rest.ensures.kept in
    failed_cut _ _ _ _ _ _ _ _ _ _ _ _ c.in-Ok-Some.event c.in-Err-apply.why (record { under_way = d.under_way; flows = w.0; kept_is = w.1 }) (g.O.Sink.held c.end_failed.new.out) _ c.in-Ok.layout i.laid refl c.in-Err-end_failed.ensures.err

pub returns-in-Err-draw_rest-clause-cut_off : goal.returns-in-Err-draw_rest-clause-cut_off
returns-in-Err-draw_rest-clause-cut_off g c =
    let i = c.loop-event.invariant in
    let d = i.ringing.drawing in
    let w = failing_whole _ _ _ _ _ _ _ _ _ _ _ _ _ d (g.O.Sink.held c.draw_rest.new.out) c.in-Ok.layout i.laid _ _ c.keep_failing.new.kept c.len-count.result _ c.len-count.ensures.count refl c.in-Ok-Some.event c.keep_failing.ensures (g.O.Sink.held c.loop-event.out) (held_flow (g.O.Sink.held c.loop-event.out) (take c.loop-event.at c.loop-event.buf) _) refl in
    failed_room_cut _ _ _ _ _ _ _ _ _ _ _ _ c.in-Ok-Some.event c.in-Err-apply.why (record { under_way = d.under_way; flows = w.0; kept_is = w.1 }) (g.O.Sink.held c.draw_rest.new.out) c.in-Err-draw_rest.ensures.err

pub returns-in-Err-draw_rest-2-clause-cut_off : goal.returns-in-Err-draw_rest-2-clause-cut_off
returns-in-Err-draw_rest-2-clause-cut_off g c =
    let i = c.loop-event.invariant in
    let d = i.ringing.drawing in
    let w = all_whole _ _ _ _ _ _ _ _ _ _ _ _ _ d (g.O.Sink.held c.draw_rest-in-Ok-None.new.out) c.in-Ok.layout i.laid _ _ c.loop-event.kept c.len-count-in-Ok-None.result _ c.len-count-in-Ok-None.ensures.count refl refl (g.O.Sink.held c.loop-event.out) (held_flow (g.O.Sink.held c.loop-event.out) (take c.loop-event.at c.loop-event.buf) _) refl in
    room_cut _ _ _ _ _ _ _ _ _ _ _ _ (record { under_way = d.under_way; flows = w.0; kept_is = w.1 }) (g.O.Sink.held c.draw_rest-in-Ok-None.new.out) c.in-Err-draw_rest-2.ensures.err

pub returns-in-Err-draw_rest-3-clause-cut_off : goal.returns-in-Err-draw_rest-3-clause-cut_off
returns-in-Err-draw_rest-3-clause-cut_off g c =
    let i = c.loop-event.invariant in
    let d = i.ringing.drawing in
    let w = all_whole _ _ _ _ _ _ _ _ _ _ _ _ _ d (g.O.Sink.held c.draw_rest-in-Err-next_event.new.out) c.in-Ok.layout i.laid _ _ c.loop-event.kept c.len-count-in-Err-next_event.result _ c.len-count-in-Err-next_event.ensures.count refl refl (g.O.Sink.held c.loop-event.out) (held_flow (g.O.Sink.held c.loop-event.out) (take c.loop-event.at c.loop-event.buf) _) refl in
    room_cut _ _ _ _ _ _ _ _ _ _ _ _ (record { under_way = d.under_way; flows = w.0; kept_is = w.1 }) (g.O.Sink.held c.draw_rest-in-Err-next_event.new.out) c.in-Err-draw_rest-3.ensures.err

pub returns-in-Ok-end_legal-clause-just : goal.returns-in-Ok-end_legal-clause-just
returns-in-Ok-end_legal-clause-just g c =
    let fits : (standing g.I.Source.left c.args.reader.now).room < 2 ^ 64 - 1 = omega (arith, c.requires.fits) in
    let u = c.loop-event.invariant.ringing.drawing.under_way in
    let taken = rw c.in-Ok-None.field-0-is at (c.in-Ok-None.ensures.end u.phase) in
    let sums = c.summary-totals.ensures in
    let e = c.summary_of-left.ensures in
    ends_on _ _ _ _ _ _ _ _ c.summary_of-left.result fits u taken (ap (λ x. x.events) e) (ap (λ x. x.held) e ∙ sums.held) (ap (λ x. x.waiting) e ∙ sums.waiting) (ap (λ x. x.alerted) e ∙ sums.alerted)

pub returns-in-Ok-end_legal-clause-drawn : goal.returns-in-Ok-end_legal-clause-drawn
returns-in-Ok-end_legal-clause-drawn g c =
    let i = c.loop-event.invariant in
    let d = i.ringing.drawing in
    let fits : (standing g.I.Source.left c.args.reader.now).room < 2 ^ 64 - 1 = omega (arith, c.requires.fits) in
    let taken = rw c.in-Ok-None.field-0-is at (c.in-Ok-None.ensures.end d.under_way.phase) in
    let sums = c.summary-totals.ensures in
    let e = c.summary_of-left.ensures in
    let w = all_whole _ _ _ _ _ _ _ _ _ _ _ _ _ d (g.O.Sink.held c.draw_rest-in-Ok-None.new.out) c.in-Ok.layout i.laid (take c.in-Ok-draw_rest-2.free c.draw_rest-in-Ok-None.new.buf) (drawn_of c.draw_rest-in-Ok-None.new.drawing) c.loop-event.kept c.len-count-in-Ok-None.result _ c.len-count-in-Ok-None.ensures.count refl refl (g.O.Sink.held c.draw_rest-in-Ok-None.new.out) c.in-Ok-draw_rest-2.ensures.ok c.in-Ok-draw_rest-2.ensures.kept in
    let b = c.in-Ok-end_legal.ensures.ended d.under_way.events (spec_of c.loop-event.state) i.ringing.noted in
    legal_got _ _ _ _ _ _ _ _ _ _ _ _ _ (record { under_way = d.under_way; flows = w.0; kept_is = w.1 }) b.0 (g.O.Sink.held c.end_legal.new.out) c.in-Ok.layout c.summary_of-left.result i.laid fits taken (ap (λ x. x.events) e) (ap (λ x. x.held) e ∙ sums.held) (ap (λ x. x.waiting) e ∙ sums.waiting) (ap (λ x. x.alerted) e ∙ sums.alerted) b.1 b.2.0

pub returns-in-Err-end_legal-clause-cut_off : goal.returns-in-Err-end_legal-clause-cut_off
returns-in-Err-end_legal-clause-cut_off g c =
    let i = c.loop-event.invariant in
    let d = i.ringing.drawing in
    let sums = c.summary-totals.ensures in
    let e = c.summary_of-left.ensures in
    let w = all_whole _ _ _ _ _ _ _ _ _ _ _ _ _ d (g.O.Sink.held c.draw_rest-in-Ok-None.new.out) c.in-Ok.layout i.laid (take c.in-Ok-draw_rest-2.free c.draw_rest-in-Ok-None.new.buf) (drawn_of c.draw_rest-in-Ok-None.new.drawing) c.loop-event.kept c.len-count-in-Ok-None.result _ c.len-count-in-Ok-None.ensures.count refl refl (g.O.Sink.held c.draw_rest-in-Ok-None.new.out) c.in-Ok-draw_rest-2.ensures.ok c.in-Ok-draw_rest-2.ensures.kept in
    let b = c.in-Err-end_legal.ensures.ended d.under_way.events (spec_of c.loop-event.state) i.ringing.noted in
    legal_cut _ _ _ _ _ _ _ _ _ _ _ _ (record { under_way = d.under_way; flows = w.0; kept_is = w.1 }) (g.O.Sink.held c.end_legal.new.out) [] c.in-Ok.layout i.laid c.summary_of-left.result (ap (λ x. x.events) e) (ap (λ x. x.held) e ∙ sums.held) (ap (λ x. x.waiting) e ∙ sums.waiting) (ap (λ x. x.alerted) e ∙ sums.alerted) b.0 b.1 b.2.1

pub returns-in-Ok-end_cut-clause-just : goal.returns-in-Ok-end_cut-clause-just
returns-in-Ok-end_cut-clause-just g c =
    let fits : (standing g.I.Source.left c.args.reader.now).room < 2 ^ 64 - 1 = omega (arith, c.requires.fits) in
    let u = c.loop-event.invariant.ringing.drawing.under_way in
    rw c.verdict_of-in-Ok-end_cut.ensures (fault_on _ _ _ _ _ _ _ _ _ _ c.in-Err-next_event.broken fits u (c.in-Err-next_event.ensures.fault u.phase))

pub returns-in-Ok-end_cut-clause-drawn : goal.returns-in-Ok-end_cut-clause-drawn
returns-in-Ok-end_cut-clause-drawn g c =
    let i = c.loop-event.invariant in
    let d = i.ringing.drawing in
    let w = all_whole _ _ _ _ _ _ _ _ _ _ _ _ _ d (g.O.Sink.held c.draw_rest-in-Err-next_event.new.out) c.in-Ok.layout i.laid (take c.in-Ok-draw_rest-3.free c.draw_rest-in-Err-next_event.new.buf) (drawn_of c.draw_rest-in-Err-next_event.new.drawing) c.loop-event.kept c.len-count-in-Err-next_event.result _ c.len-count-in-Err-next_event.ensures.count refl refl (g.O.Sink.held c.draw_rest-in-Err-next_event.new.out) c.in-Ok-draw_rest-3.ensures.ok c.in-Ok-draw_rest-3.ensures.kept in
    rw c.verdict_of-in-Ok-end_cut.ensures (refused_got _ _ _ _ _ _ _ _ _ _ _ _ (record { under_way = d.under_way; flows = w.0; kept_is = w.1 }) (g.O.Sink.held c.end_cut.new.out) _ c.in-Ok.layout i.laid c.in-Err-next_event.broken refl c.in-Ok-end_cut.ensures.ok)

pub returns-in-Err-end_cut-clause-cut_off : goal.returns-in-Err-end_cut-clause-cut_off
returns-in-Err-end_cut-clause-cut_off g c =
    let i = c.loop-event.invariant in
    let d = i.ringing.drawing in
    let w = all_whole _ _ _ _ _ _ _ _ _ _ _ _ _ d (g.O.Sink.held c.draw_rest-in-Err-next_event.new.out) c.in-Ok.layout i.laid (take c.in-Ok-draw_rest-3.free c.draw_rest-in-Err-next_event.new.buf) (drawn_of c.draw_rest-in-Err-next_event.new.drawing) c.loop-event.kept c.len-count-in-Err-next_event.result _ c.len-count-in-Err-next_event.ensures.count refl refl (g.O.Sink.held c.draw_rest-in-Err-next_event.new.out) c.in-Ok-draw_rest-3.ensures.ok c.in-Ok-draw_rest-3.ensures.kept in
    refused_cut _ _ _ _ _ _ _ _ _ _ _ _ (record { under_way = d.under_way; flows = w.0; kept_is = w.1 }) (g.O.Sink.held c.end_cut.new.out) _ c.in-Ok.layout i.laid refl c.in-Err-end_cut.ensures.err

pub returns-in-Err-end_failed-clause-cause : goal.returns-in-Err-end_failed-clause-cause
returns-in-Err-end_failed-clause-cause g c =
    let i = c.loop-event.invariant in
    cause_after _ _ _ _ _ (omega (arith, i.sunk, c.draw_rest.ensures.cause.later)) c.in-Err-end_failed.ensures.cause

pub returns-in-Err-end_legal-clause-cause : goal.returns-in-Err-end_legal-clause-cause
returns-in-Err-end_legal-clause-cause g c =
    let i = c.loop-event.invariant in
    cause_after _ _ _ _ _ (omega (arith, i.sunk, c.draw_rest-in-Ok-None.ensures.cause.later)) c.in-Err-end_legal.ensures.cause

pub returns-in-Err-end_cut-clause-cause : goal.returns-in-Err-end_cut-clause-cause
returns-in-Err-end_cut-clause-cause g c =
    let i = c.loop-event.invariant in
    cause_after _ _ _ _ _ (omega (arith, i.sunk, c.draw_rest-in-Err-next_event.ensures.cause.later)) c.in-Err-end_cut.ensures.cause

pub returns-in-Ok-end_failed-clause-later : goal.returns-in-Ok-end_failed-clause-later
returns-in-Ok-end_failed-clause-later g c = omega (arith, c.next_event.ensures.later, c.loop-event.invariant.later)

pub returns-in-Ok-end_failed-clause-same_input : goal.returns-in-Ok-end_failed-clause-same_input
returns-in-Ok-end_failed-clause-same_input g c = c.next_event.ensures.same_input ∙ c.loop-event.invariant.same_input

pub returns-in-Err-end_failed-clause-later : goal.returns-in-Err-end_failed-clause-later
returns-in-Err-end_failed-clause-later g c = omega (arith, c.next_event.ensures.later, c.loop-event.invariant.later)

pub returns-in-Err-end_failed-clause-same_input : goal.returns-in-Err-end_failed-clause-same_input
returns-in-Err-end_failed-clause-same_input g c = c.next_event.ensures.same_input ∙ c.loop-event.invariant.same_input

pub returns-in-Ok-end_failed-clause-cause : goal.returns-in-Ok-end_failed-clause-cause
returns-in-Ok-end_failed-clause-cause g c = cause_on _ _ _ _ _ c.loop-event.invariant.sunk c.draw_rest.ensures.cause.later c.in-Ok-end_failed.ensures.cause.later

pub returns-in-Ok-end_legal-clause-later : goal.returns-in-Ok-end_legal-clause-later
returns-in-Ok-end_legal-clause-later g c = omega (arith, c.next_event.ensures.later, c.loop-event.invariant.later)

pub returns-in-Ok-end_legal-clause-same_input : goal.returns-in-Ok-end_legal-clause-same_input
returns-in-Ok-end_legal-clause-same_input g c = c.next_event.ensures.same_input ∙ c.loop-event.invariant.same_input

pub returns-in-Err-end_legal-clause-later : goal.returns-in-Err-end_legal-clause-later
returns-in-Err-end_legal-clause-later g c = omega (arith, c.next_event.ensures.later, c.loop-event.invariant.later)

pub returns-in-Err-end_legal-clause-same_input : goal.returns-in-Err-end_legal-clause-same_input
returns-in-Err-end_legal-clause-same_input g c = c.next_event.ensures.same_input ∙ c.loop-event.invariant.same_input

pub returns-in-Ok-end_legal-clause-cause : goal.returns-in-Ok-end_legal-clause-cause
returns-in-Ok-end_legal-clause-cause g c = cause_on _ _ _ _ _ c.loop-event.invariant.sunk c.draw_rest-in-Ok-None.ensures.cause.later c.in-Ok-end_legal.ensures.cause.later

pub returns-in-Ok-end_cut-clause-later : goal.returns-in-Ok-end_cut-clause-later
returns-in-Ok-end_cut-clause-later g c = omega (arith, c.next_event.ensures.later, c.loop-event.invariant.later)

pub returns-in-Ok-end_cut-clause-same_input : goal.returns-in-Ok-end_cut-clause-same_input
returns-in-Ok-end_cut-clause-same_input g c = c.next_event.ensures.same_input ∙ c.loop-event.invariant.same_input

pub returns-in-Err-end_cut-clause-later : goal.returns-in-Err-end_cut-clause-later
returns-in-Err-end_cut-clause-later g c = omega (arith, c.next_event.ensures.later, c.loop-event.invariant.later)

pub returns-in-Err-end_cut-clause-same_input : goal.returns-in-Err-end_cut-clause-same_input
returns-in-Err-end_cut-clause-same_input g c = c.next_event.ensures.same_input ∙ c.loop-event.invariant.same_input

pub returns-in-Ok-end_cut-clause-cause : goal.returns-in-Ok-end_cut-clause-cause
returns-in-Ok-end_cut-clause-cause g c = cause_on _ _ _ _ _ c.loop-event.invariant.sunk c.draw_rest-in-Err-next_event.ensures.cause.later c.in-Ok-end_cut.ensures.cause.later

pub draw_on-requires-clause-lawful : goal.draw_on-requires-clause-lawful
draw_on-requires-clause-lawful g c = c.in-Ok.ensures.head.lawful

pub draw_on-requires-clause-low : goal.draw_on-requires-clause-low
draw_on-requires-clause-low g c =
    let d = c.loop-event.invariant.ringing.drawing in
    omega (arith, drawing_few _ _ _ _ _ _ _ _ _ _ _ _ _ d, drawing_low _ _ _ _ _ _ _ _ _ _ _ _ _ d, c.requires.fits)

pub draw_on-requires-clause-some : goal.draw_on-requires-clause-some
draw_on-requires-clause-some g c = drawing_kept _ _ _ _ _ _ _ _ _ _ _ _ _ c.loop-event.invariant.ringing.drawing

pub draw_on-requires-clause-free : goal.draw_on-requires-clause-free
draw_on-requires-clause-free g c = c.loop-event.invariant.ringing.drawing.drawn.few_kept

pub end_failed-requires-clause-lawful : goal.end_failed-requires-clause-lawful
end_failed-requires-clause-lawful g c = c.in-Ok.ensures.head.lawful

pub end_failed-requires-clause-room : goal.end_failed-requires-clause-room
end_failed-requires-clause-room g c = omega (arith, c.in-Ok-draw_rest.ensures.room)

pub end_legal-requires-clause-noted : goal.end_legal-requires-clause-noted
end_legal-requires-clause-noted g c = λ wanted.
    let r = c.loop-event.invariant.ringing in
    (r.drawing.under_way.events, spec_of c.loop-event.state, r.noted wanted, sym r.drawing.under_way.counted)

pub note_if-requires : goal.note_if-requires
note_if-requires g c =
    let u = c.loop-event.invariant.ringing.drawing.under_way in
    let taken = rw c.in-Ok-Some.field-0-is at (c.in-Ok-Some.ensures.event u.phase) in
    has_place _ _ u.lawful taken.names

pub end_legal-requires-clause-lawful : goal.end_legal-requires-clause-lawful
end_legal-requires-clause-lawful g c = c.in-Ok.ensures.head.lawful

pub end_legal-requires-clause-room : goal.end_legal-requires-clause-room
end_legal-requires-clause-room g c = omega (arith, c.in-Ok-draw_rest-2.ensures.room)

pub end_cut-requires-clause-lawful : goal.end_cut-requires-clause-lawful
end_cut-requires-clause-lawful g c = c.in-Ok.ensures.head.lawful

pub end_cut-requires-clause-room : goal.end_cut-requires-clause-room
end_cut-requires-clause-room g c = omega (arith, c.in-Ok-draw_rest-3.ensures.room)

pub draw_on-requires-clause-noted : goal.draw_on-requires-clause-noted
draw_on-requires-clause-noted g c =
    let i = c.loop-event.invariant in
    let taken = rw c.in-Ok-Some.field-0-is at (c.in-Ok-Some.ensures.event i.ringing.drawing.under_way.phase) in
    noted c.in-Ok.layout c.in-Ok-Some.event c.in-Ok.ensures.head.lawful (subst (λ l. HasNames l c.in-Ok-Some.event) (sym i.laid) taken.names)

pub apply-requires : goal.apply-requires
apply-requires g c =
    let u = c.loop-event.invariant.ringing.drawing.under_way in
    let taken = rw c.in-Ok-Some.field-0-is at (c.in-Ok-Some.ensures.event u.phase) in
    subst (λ l. HasNames l c.in-Ok-Some.event) (sym u.layout) taken.names

pub overflow_add-place : goal.overflow_add-place
overflow_add-place g c = omega (arith, drawing_few _ _ _ _ _ _ _ _ _ _ _ _ _ c.loop-event.invariant.ringing.drawing, c.requires.fits)

pub end_failed-requires-clause-noted : goal.end_failed-requires-clause-noted
end_failed-requires-clause-noted g c =
    let i = c.loop-event.invariant in
    let taken = rw c.in-Ok-Some.field-0-is at (c.in-Ok-Some.ensures.event i.ringing.drawing.under_way.phase) in
    noted c.in-Ok.layout c.in-Ok-Some.event c.in-Ok.ensures.head.lawful (subst (λ l. HasNames l c.in-Ok-Some.event) (sym i.laid) taken.names)

pub draw_rest-requires-clause-low : goal.draw_rest-requires-clause-low
draw_rest-requires-clause-low g c =
    let d = c.loop-event.invariant.ringing.drawing in
    omega (arith, drawing_few _ _ _ _ _ _ _ _ _ _ _ _ _ d, drawing_low _ _ _ _ _ _ _ _ _ _ _ _ _ d, c.requires.fits)

pub draw_rest-requires-clause-few : goal.draw_rest-requires-clause-few
draw_rest-requires-clause-few g c =
    let d = c.loop-event.invariant.ringing.drawing in
    omega (arith, drawing_few _ _ _ _ _ _ _ _ _ _ _ _ _ d, c.requires.fits)

pub draw_rest-requires-in-Ok-None-clause-low : goal.draw_rest-requires-in-Ok-None-clause-low
draw_rest-requires-in-Ok-None-clause-low g c =
    let d = c.loop-event.invariant.ringing.drawing in
    omega (arith, drawing_few _ _ _ _ _ _ _ _ _ _ _ _ _ d, drawing_low _ _ _ _ _ _ _ _ _ _ _ _ _ d, c.requires.fits)

pub draw_rest-requires-in-Ok-None-clause-few : goal.draw_rest-requires-in-Ok-None-clause-few
draw_rest-requires-in-Ok-None-clause-few g c =
    let d = c.loop-event.invariant.ringing.drawing in
    omega (arith, drawing_few _ _ _ _ _ _ _ _ _ _ _ _ _ d, c.requires.fits)

pub draw_rest-requires-in-Err-next_event-clause-low : goal.draw_rest-requires-in-Err-next_event-clause-low
draw_rest-requires-in-Err-next_event-clause-low g c =
    let d = c.loop-event.invariant.ringing.drawing in
    omega (arith, drawing_few _ _ _ _ _ _ _ _ _ _ _ _ _ d, drawing_low _ _ _ _ _ _ _ _ _ _ _ _ _ d, c.requires.fits)

pub draw_rest-requires-in-Err-next_event-clause-few : goal.draw_rest-requires-in-Err-next_event-clause-few
draw_rest-requires-in-Err-next_event-clause-few g c =
    let d = c.loop-event.invariant.ringing.drawing in
    omega (arith, drawing_few _ _ _ _ _ _ _ _ _ _ _ _ _ d, c.requires.fits)

longer : (b : Bool) (xs : List Event) (e : Event) → length xs ≤ length (cond b (xs ++ e ∷ []) xs)
longer true xs e = omega (arith, length-append xs (e ∷ []))
longer false xs e = omega arith

pub draw_rest-requires-clause-some : goal.draw_rest-requires-clause-some
draw_rest-requires-clause-some g c = omega (arith, c.len-count.ensures.count, ap length c.keep_failing.ensures, longer (in_view c.args.view.now c.loop-event.place) c.loop-event.kept c.in-Ok-Some.event)

pub keep_failing-requires-clause-noted : goal.keep_failing-requires-clause-noted
keep_failing-requires-clause-noted g c =
    let i = c.loop-event.invariant in
    let taken = rw c.in-Ok-Some.field-0-is at (c.in-Ok-Some.ensures.event i.ringing.drawing.under_way.phase) in
    noted c.in-Ok.layout c.in-Ok-Some.event c.in-Ok.ensures.head.lawful (subst (λ l. HasNames l c.in-Ok-Some.event) (sym i.laid) taken.names)
