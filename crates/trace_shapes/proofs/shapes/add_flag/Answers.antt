use Rattle.std.proofs.Common.{[], take}
use Rattle.trace_shapes.specs.Shapes.{flag_text}
use Rattle.trace_shapes.proofs.Added.{added_four}
use Rattle.trace_shapes.proofs.shapes.add_flag.Goals as goal

pub returns-clause-text : goal.returns-clause-text
unfolding flag_text
returns-clause-text c =
    added_four (take c.args.at c.args.buf.now) _ _ _ _ _ _ _ [] c.add_flag_place-at.ensures.text c.add_with_number-at.ensures.text c.add_clause-at.ensures.text _ c.add.ensures.text
