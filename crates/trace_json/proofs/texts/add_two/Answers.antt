use Rattle.std.proofs.Common.{take}
use Rattle.trace_json.specs.Texts.{with_number}
use Rattle.trace_json.proofs.Adding.{added_two}
use Rattle.trace_json.proofs.texts.add_two.Goals as goal

pub returns-clause-text : goal.returns-clause-text
returns-clause-text c =
    added_two (take c.args.at c.args.buf.now) _ _ (with_number c.args.words.now c.args.n) (with_number c.args.more.now c.args.k) c.add_named-at.ensures.text c.add_named.ensures.text
