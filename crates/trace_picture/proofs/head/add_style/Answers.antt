use Rattle.std.proofs.Common.{[]}
use Rattle.trace_picture.specs.Picture.{style_text}
use Rattle.trace_shapes.proofs.Added.{added_four}
use Rattle.trace_picture.proofs.head.add_style.Goals as goal

pub returns-clause-text : goal.returns-clause-text
unfolding style_text
returns-clause-text c = added_four _ _ _ _ _ _ _ _ [] c.add-at.ensures.text c.add-at-2.ensures.text c.add-at-3.ensures.text _ c.add.ensures.text
