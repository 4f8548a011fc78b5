use Rattle.std.proofs.Common.{take}
use Rattle.trace_json.specs.Texts.{opening_text}
use Rattle.trace_json.proofs.Adding.{added_head}
use Rattle.trace_json.proofs.texts.add_head.Goals as goal

pub returns-clause-text : goal.returns-clause-text
unfolding opening_text
returns-clause-text c = added_head c.args.layout.now (take c.args.at c.args.buf.now) _ _ c.add-at.ensures.text c.add_rows.ensures.text
