use Rattle.std.proofs.Common.{◌++◌, take, ap, sym, ◌∙◌}
use Rattle.trace_json.specs.Texts.{turn_if}
use Rattle.trace_json.proofs.Adding.{added_turn}
use Rattle.trace_json.proofs.texts.add_turn.Goals as goal

pub returns-in-Some-clause-text : goal.returns-in-Some-clause-text
returns-in-Some-clause-text c =
    added_turn c.args.side c.args.place c.args.thread.0 c.in-Some.span (take c.args.at c.args.buf.now) _ _ _ _ c.add_side-at.ensures.text c.add_span_name-at.ensures.text c.add_side_place-at.ensures.text c.add_thread.ensures.text
    ∙ ap (λ x. take c.args.at c.args.buf.now ++ turn_if c.args.side c.args.place c.args.thread.0 x) (sym c.in-Some.is)
