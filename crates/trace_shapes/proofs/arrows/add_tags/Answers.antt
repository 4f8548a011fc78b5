use Rattle.std.proofs.Common.{take}
use Rattle.trace_shapes.specs.Arrows.{tags_text}
use Rattle.trace_shapes.proofs.Added.{added_five}
use Rattle.trace_shapes.proofs.arrows.add_tags.Goals as goal

pub returns-clause-text : goal.returns-clause-text
unfolding tags_text
returns-clause-text c =
    added_five (take c.args.at c.args.buf.now) _ _ _ _ _ _ _ _ c.add-at.ensures.text c.add_way-at.ensures.text c.add-at-2.ensures.text _ _ c.add_way-at-2.ensures.text c.add_origin.ensures.text
