use Rattle.std.proofs.Common.{◌∙◌, ap, sym, refl, Ok, arith}
use Rattle.trace_core.specs.declared.line.Line.TheVariants as line
use Rattle.trace_core.proofs.UsualEvents.{usual_line}
use Rattle.trace_core.proofs.phases.take_usual.Goals as goal

pub returns-clause-taken : goal.returns-clause-taken
returns-clause-taken c =
    let old = c.args.progress.now in
    let x = c.in_ok-held.held in
    let h = c.pass_line.ensures in record {
      line = usual_line old.layout old.place old.intake.window x old.lawful (omega arith) c.in_ok-held.ensures ∙ ap (λ w. Ok (line.Event x.event, w)) (sym h.window);
      lines = h.lines;
      given = h.given;
      budget = h.budget;
      phase = refl;
      layout = refl;
      place = c.step.ensures;
    }
