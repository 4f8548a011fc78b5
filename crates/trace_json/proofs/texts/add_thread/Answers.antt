use Rattle.std.proofs.Common.{take}
use Rattle.std.specs.Prelude.{codes}
use Rattle.trace_json.specs.Texts.{with_number}
use Rattle.trace_json.proofs.Adding.{added_two}
use Rattle.trace_json.proofs.texts.add_thread.Goals as goal

pub returns-clause-text : goal.returns-clause-text
returns-clause-text c =
    added_two (take c.args.at c.args.buf.now) _ _ (with_number (codes ",\"args\":{\"thread\":\"t") c.args.thread.0) (codes "\"}}") c.add_named-at.ensures.text c.add.ensures.text
