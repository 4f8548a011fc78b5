use Rattle.std.proofs.Common.{◌++◌, take, length, ap, ◌∙◌, arith}
use Rattle.std.specs.Prelude.{decimal}
use Rattle.trace_core.specs.Text.{action_text}
use Rattle.trace_json.proofs.Adding.{action_in}
use Rattle.trace_json.proofs.texts.add_action.Goals as goal

pub returns-clause-text : goal.returns-clause-text
returns-clause-text c =
    let found = action_in c.args.place c.args.e.now.thread.0 (action_text c.args.e.now.action) c.add_event-end.new.buf c.add_event-end.result c.add_number-numbers-2.result (omega (arith, c.add_event-end.ensures.near, c.add_event-end.auto.buf)) c.add_event-end.ensures.text (omega (arith, c.add_number-numbers.ensures.end, c.add_number-numbers-2.ensures.end, ap (λ t. length (decimal t)) c.from.ensures)) in
    c.add.ensures.text ∙ ap (λ l. take c.args.at c.args.buf.now ++ l) found
