use Rattle.trace_shapes.proofs.Added.{added_two}
use Rattle.trace_explain.specs.Words.{later_text}
use Rattle.trace_explain.proofs.explain_verdict.add_later.Goals as goal

pub returns-clause-text : goal.returns-clause-text
unfolding later_text
returns-clause-text c = added_two _ _ _ _ _ c.add_with_number-at.ensures.text c.add.ensures.text
