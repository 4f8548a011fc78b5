use Rattle.std.proofs.Common.{take}
use Rattle.trace_json.proofs.Adding.{added_instant}
use Rattle.trace_json.proofs.texts.add_instant.Goals as goal

pub returns-clause-text : goal.returns-clause-text
returns-clause-text c =
    added_instant c.args.place c.args.e.now (take c.args.at c.args.buf.now) _ _ _ _ _ c.add-at.ensures.text c.add_place-at.ensures.text c.add-at-2.ensures.text c.add_action-at.ensures.text c.add.ensures.text
