use Rattle.std.proofs.Common.{[], take}
use Rattle.trace_picture.specs.Bands.{band_tag}
use Rattle.trace_shapes.proofs.Added.{added_three}
use Rattle.trace_picture.proofs.bands.add_band.Goals as goal

pub returns-clause-text : goal.returns-clause-text
unfolding band_tag
returns-clause-text c =
    added_three (take c.args.at c.args.buf.now) _ _ _ _ _ _ [] [] c.add_with_number-at.ensures.text c.add_with_number-at-2.ensures.text c.add.ensures.text
