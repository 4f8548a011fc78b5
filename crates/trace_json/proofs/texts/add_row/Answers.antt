use Rattle.std.proofs.Common.{take}
use Rattle.trace_json.proofs.Adding.{added_row}
use Rattle.trace_json.proofs.texts.add_row.Goals as goal

pub returns-clause-text : goal.returns-clause-text
returns-clause-text c =
    added_row c.args.thread (take c.args.at c.args.buf.now) _ _ _ _ _ c.add_named-at.ensures.text c.add_named-at-2.ensures.text c.add_named-at-3.ensures.text c.add_named-at-4.ensures.text c.add.ensures.text
