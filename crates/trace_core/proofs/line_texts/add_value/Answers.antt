use Rattle.trace_core.proofs.Added.{added_four}
use Rattle.trace_core.proofs.line_texts.add_value.Goals as goal

pub returns-clause-text : goal.returns-clause-text
returns-clause-text c = added_four _ _ _ _ _ _ _ _ _ c.add_named-at.ensures.text c.add-at.ensures.text c.add_number-at.ensures.text c.add.ensures.text
