use Rattle.std.proofs.Common.{take}
use Rattle.trace_json.proofs.Adding.{added_place}
use Rattle.trace_json.proofs.texts.add_place.Goals as goal

pub returns-clause-text : goal.returns-clause-text
returns-clause-text c = added_place c.args.place c.args.thread.0 (take c.args.at c.args.buf.now) _ _ c.add_named-at.ensures.text c.add_with_number.ensures.text
