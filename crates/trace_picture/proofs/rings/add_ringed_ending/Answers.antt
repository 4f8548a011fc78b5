use Rattle.std.proofs.Common.{[]}
use Rattle.trace_shapes.proofs.Added.{added_three}
use Rattle.trace_picture.proofs.rings.add_ringed_ending.Goals as goal

pub returns-clause-text : goal.returns-clause-text
returns-clause-text c = added_three _ _ _ _ _ _ _ [] [] c.add_last_closing-at.ensures.text c.add_rings-at.ensures.text c.add_ringed_end.ensures.text
