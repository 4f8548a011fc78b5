use Rattle.std.proofs.Common.{take}
use Rattle.trace_json.proofs.Adding.{added_event}
use Rattle.trace_json.proofs.texts.add_items.Goals as goal

pub returns-clause-text : goal.returns-clause-text
returns-clause-text c =
    added_event c.args.place c.args.e.now c.ended_by.result c.begun_by.result (take c.args.at c.args.buf.now) _ _ _ c.ended_by.ensures c.begun_by.ensures c.add_instant-at.ensures.text c.add_turn-at.ensures.text c.add_turn.ensures.text
