use Rattle.trace_core.proofs.Added.{added_layout}
use Rattle.trace_core.proofs.line_texts.add_layout.Goals as goal

pub returns-clause-text : goal.returns-clause-text
returns-clause-text c =
    added_layout c.args.layout.now _ _ _ _ _ _ c.add_named-at.ensures.text c.add_named-at-2.ensures.text c.add_named-at-3.ensures.text c.add_named-at-4.ensures.text c.add.ensures.text
