use Rattle.trace_core.proofs.Added.{added_three}
use Rattle.trace_core.proofs.line_texts.add_end.Goals as goal

pub returns-clause-text : goal.returns-clause-text
returns-clause-text c = added_three _ _ _ _ _ _ _ c.add-at.ensures.text c.add_number-at.ensures.text c.add.ensures.text
