use Rattle.std.proofs.Common.{◌≡◌, ◌++◌, take, subst, IfOk, OnErr}
use Rattle.firefly_outside.specs.Causes.{AppendsPrefix}
use Rattle.trace_core.specs.Whole.{Flows}
use Rattle.trace_picture.specs.Shown.{Drawn, drawn_of}
use Rattle.trace_picture.specs.Keeping.{band_steps, drawn_over}
use Rattle.trace_picture.proofs.draw.draw_kept.Goals as goal

pub returns-clause-ok : goal.returns-clause-ok
returns-clause-ok g c =
    subst (λ (d : Drawn). IfOk c.draw_events.result (λ end. Flows (g.O.Sink.held c.args.out.now) (g.O.Sink.held c.draw_events.new.out) (take c.args.at c.args.buf.now) (take end c.draw_events.new.buf) (band_steps c.args.layout.now c.args.view.now c.args.start d (take c.args.count c.args.kept.now))))
    c.turn.ensures.turned c.draw_events.ensures.ok

pub returns-clause-kept : goal.returns-clause-kept
returns-clause-kept g c =
    subst (λ (d : Drawn). IfOk c.draw_events.result (λ end. drawn_of c.draw_events.new.drawing ≡ drawn_over c.args.layout.now c.args.view.now c.args.start d (take c.args.count c.args.kept.now))) c.turn.ensures.turned c.draw_events.ensures.kept

pub returns-clause-err : goal.returns-clause-err
returns-clause-err g c =
    subst (λ (d : Drawn). OnErr c.draw_events.result (AppendsPrefix (g.O.Sink.held c.args.out.now) (g.O.Sink.held c.draw_events.new.out) (take c.args.at c.args.buf.now ++ band_steps c.args.layout.now c.args.view.now c.args.start d (take c.args.count c.args.kept.now))))
    c.turn.ensures.turned c.draw_events.ensures.err
