use Rattle.trace_picture.specs.Rings.{ring_text}
use Rattle.trace_shapes.proofs.Added.{added_two}
use Rattle.trace_picture.proofs.rings.add_ring.Goals as goal

pub returns-clause-text : goal.returns-clause-text
unfolding ring_text
returns-clause-text c = added_two _ _ _ _ _ c.add_with_number-at.ensures.text c.add.ensures.text
