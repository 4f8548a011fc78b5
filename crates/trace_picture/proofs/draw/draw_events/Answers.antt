use Rattle.std.proofs.Common.{◌≡◌, ℕ, ◌+◌, ◌≤◌, List, [], ◌++◌, length, take, drop, refl, ap, sym, subst, ◌∙◌, arith}
use Rattle.trace_core.proofs.Flowing.{Pending, pending_first, pending_flow, pending_add, pending_fault, pending_done}
use Rattle.trace_picture.specs.Bands.{step_text}
use Rattle.trace_picture.specs.Shown.{Drawn, drawn_of}
use Rattle.trace_picture.specs.Keeping.{band_steps, drawn_over}
use Rattle.trace_picture.proofs.Banding.{steps_more, over_more, steps_none, over_none, front_is, none_left}
use Rattle.trace_picture.proofs.draw.draw_events.Goals as goal

pub loop-i-init : goal.loop-i-init
loop-i-init g c =
    let l = c.args.layout.now in
    let v = c.args.view.now in
    let d = drawn_of c.args.drawing.now in
    let es = take c.args.count c.args.kept.now in
    let old = take c.args.at c.args.buf.now in
    let h = g.O.Sink.held c.args.out.now in
    let zero_more : c.args.start ≡ c.args.start + 0 = omega arith in
    record {
      flows = subst (λ n. Pending h h old (old ++ band_steps l v c.args.start d es) (band_steps l v n d es)) zero_more (pending_first h old (band_steps l v c.args.start d es));
      kept_is = ap (λ n. drawn_over l v n d es) zero_more;
      inside = c.requires.within;
      long = refl;
      sunk = omega arith;
    }

pub returns-in-Err-clause-err : goal.returns-in-Err-clause-err
returns-in-Err-clause-err g c =
    pending_fault (g.O.Sink.held c.args.out.now) (g.O.Sink.held c.loop-i.out) (g.O.Sink.held c.make_room.new.out) (take c.loop-i.last c.loop-i.buf) _ _ c.loop-i.invariant.flows c.in-Err.ensures.err

pub loop-i-preserved : goal.loop-i-preserved
loop-i-preserved g c =
    let l = c.args.layout.now in
    let v = c.args.view.now in
    let i = c.loop-i.i in
    let start = c.args.start in
    let d = drawn_of c.loop-i.drawing in
    let d' = drawn_of c.add_step-last.new.drawing in
    let all = c.args.kept.now in
    let es = take c.args.count all in
    let e = c.at-e.result in
    let inv = c.loop-i.invariant in
    let front = front_is all c.args.count i e c.at-e.ensures.is (omega (arith, c.loop-i-test.true)) c.requires.some in
    let rest = band_steps l v (start + (i + 1)) d' (drop (i + 1) es) in
    let step = step_text l v d.page d.board (start + i) e in
    let more : band_steps l v (start + i) d (drop i es) ≡ step ++ rest =
    steps_more l v start i d e (drop i es) (drop (i + 1) es) front ∙ ap (λ (x : Drawn). step ++ band_steps l v (start + (i + 1)) x (drop (i + 1) es)) (sym c.add_step-last.ensures.kept)
    in
    let whole = take c.args.at c.args.buf.now ++ band_steps l v start (drawn_of c.args.drawing.now) es in
    let h = g.O.Sink.held c.args.out.now in
    let h' = g.O.Sink.held c.loop-i.out in
    let h'' = g.O.Sink.held c.make_room.new.out in
    let free = take c.in-Ok.free c.loop-i.buf in
    let last = take c.add_step-last.result c.add_step-last.new.buf in
    record {
      flows = pending_add h h'' free last step whole rest (subst (Pending h h'' free whole) more (pending_flow h h' h'' (take c.loop-i.last c.loop-i.buf) free whole (band_steps l v (start + i) d (drop i es)) inv.flows c.in-Ok.ensures.ok)) c.add_step-last.ensures.text;
      kept_is = inv.kept_is ∙ over_more l v start i d e (drop i es) (drop (i + 1) es) front ∙ ap (λ (x : Drawn). drawn_over l v (start + (i + 1)) x (drop (i + 1) es)) (sym c.add_step-last.ensures.kept);
      inside = omega (arith, c.add_step-last.ensures.near, c.in-Ok.ensures.room, c.add_step-last.auto.buf);
      long = c.add_step-last.auto.buf ∙ inv.long;
      sunk = omega (arith, inv.sunk, c.make_room.ensures.cause.later);
    }

pub returns-clause-ok : goal.returns-clause-ok
returns-clause-ok g c =
    let l = c.args.layout.now in
    let v = c.args.view.now in
    let d = drawn_of c.loop-i.drawing in
    let all = c.args.kept.now in
    let es = take c.args.count all in
    let none = none_left all c.args.count c.loop-i.i (omega (arith, c.loop-i-test.false)) c.requires.some in
    let text = band_steps l v c.args.start (drawn_of c.args.drawing.now) es in
    let old = take c.args.at c.args.buf.now in
    let h = g.O.Sink.held c.args.out.now in
    let h' = g.O.Sink.held c.loop-i.out in
    let last = take c.loop-i.last c.loop-i.buf in
    pending_done h h' old last text (old ++ text) refl
    (subst (Pending h h' last (old ++ text)) (steps_none l v (c.args.start + c.loop-i.i) d (drop c.loop-i.i es) none) c.loop-i.invariant.flows)

pub returns-clause-kept : goal.returns-clause-kept
returns-clause-kept g c =
    let l = c.args.layout.now in
    let v = c.args.view.now in
    let d = drawn_of c.loop-i.drawing in
    let all = c.args.kept.now in
    let es = take c.args.count all in
    let none = none_left all c.args.count c.loop-i.i (omega (arith, c.loop-i-test.false)) c.requires.some in
    sym (c.loop-i.invariant.kept_is ∙ over_none l v (c.args.start + c.loop-i.i) d (drop c.loop-i.i es) none)
