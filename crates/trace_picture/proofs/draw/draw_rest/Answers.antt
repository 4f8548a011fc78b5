use Rattle.std.proofs.Common.{◌≡◌, ℕ, ◌+◌, ◌-◌, ◌^◌, ◌<◌, ◌++◌, List, [], take, ◌∙◌, ap, sym, arith, append-nil}
use Rattle.firefly_outside.specs.Causes.{AppendsPrefix}
use Rattle.trace_core.specs.Whole.{Flows}
use Rattle.trace_core.proofs.Flowing.{pending_fault}
use Rattle.trace_picture.specs.declared.plan.Page.{Page}
use Rattle.trace_picture.specs.Shown.{Drawn, drawn_of}
use Rattle.trace_picture.specs.Keeping.{turned, band_steps, drawn_over}
use Rattle.trace_picture.proofs.Banding.{flows_on, if_ok, always_ok, on_err}
use Rattle.trace_picture.proofs.Drawing.{over_page}
use Rattle.trace_picture.proofs.draw.draw_rest.Goals as goal

pub returns-clause-ok : goal.returns-clause-ok
returns-clause-ok g c =
    if_ok c.make_room.result _ _ (λ end f. flows_on (g.O.Sink.held c.args.out.now) (g.O.Sink.held c.draw_kept.new.out) (g.O.Sink.held c.make_room.new.out) (take c.args.at c.args.buf.now) (take c.in-Ok.end c.draw_kept.new.buf) (take end c.draw_kept.new.buf) _ c.in-Ok.ensures.ok f) c.make_room.ensures.ok

pub returns-clause-kept : goal.returns-clause-kept
returns-clause-kept g c = always_ok c.make_room.result _ (λ end. c.in-Ok.ensures.kept)

pub returns-clause-low : goal.returns-clause-low
returns-clause-low g c =
    let l = c.args.layout.now in
    let v = c.args.view.now in
    let d = turned l c.args.kept.now (drawn_of c.args.drawing.now) in
    let page = over_page l v c.args.start d (take c.args.count c.args.kept.now) in
    let same : c.draw_kept.new.drawing.page.next ≡ d.page.next = (λ i. (c.in-Ok.ensures.kept i).page.next) ∙ ap (λ (p : Page). p.next) page in
    always_ok c.make_room.result _ (λ end. omega (arith, same, c.in-Ok.ensures.low, c.requires.low))

pub returns-clause-err : goal.returns-clause-err
returns-clause-err g c =
    let f = c.in-Ok.ensures.ok in
    on_err c.make_room.result _ _ (pending_fault (g.O.Sink.held c.args.out.now) (g.O.Sink.held c.draw_kept.new.out) (g.O.Sink.held c.make_room.new.out) (take c.in-Ok.end c.draw_kept.new.buf) _ [] (f.0, f.1, sym f.2 ∙ sym (append-nil (f.0 ++ take c.in-Ok.end c.draw_kept.new.buf)))) c.make_room.ensures.err
