use Rattle.std.proofs.Common.{[], take}
use Rattle.trace_picture.specs.Verdicts.{rule_line}
use Rattle.trace_shapes.proofs.Added.{added_three}
use Rattle.trace_picture.proofs.verdicts.add_rule_line.Goals as goal

pub returns-clause-text : goal.returns-clause-text
unfolding rule_line
returns-clause-text c = added_three (take c.args.at c.args.buf.now) _ _ _ _ _ _ [] [] c.add-at.ensures.text (rw c.rule.ensures.words at c.add-at-2.ensures.text) c.add.ensures.text
