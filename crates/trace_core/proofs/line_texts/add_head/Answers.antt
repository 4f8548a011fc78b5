use Rattle.std.proofs.Common.{◌++◌, take, ap, ◌∙◌}
use Rattle.trace_core.proofs.Added.{added_two}
use Rattle.trace_core.proofs.line_texts.add_head.Goals as goal

pub returns-clause-text : goal.returns-clause-text
returns-clause-text c = added_two _ _ _ _ _ (c.add-at.ensures.text ∙ ap (λ line. take c.args.at c.args.buf.now ++ line) c.first_line.ensures.text) c.add_layout.ensures.text
