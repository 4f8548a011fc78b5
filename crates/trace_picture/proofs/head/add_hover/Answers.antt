use Rattle.std.proofs.Common.{[], ◌++◌, take, ◌∙◌}
use Rattle.std.specs.Prelude.{codes}
use Rattle.trace_shapes.specs.Shapes.{with_number}
use Rattle.trace_picture.specs.Picture.{hover_text}
use Rattle.trace_shapes.proofs.Added.{added_three}
use Rattle.trace_picture.proofs.head.add_hover.Goals as goal

pub returns-clause-text : goal.returns-clause-text
unfolding hover_text
returns-clause-text c =
    let old = take c.args.at c.args.buf.now in
    let m = c.from-m.ensures in
    added_three old _ _ _ _ _ _ [] [] c.add_with_number-at.ensures.text c.add_with_number-at-2.ensures.text c.add.ensures.text
    ∙ (λ i. old ++ (with_number (codes "<style>.w:has(.m") (m i) ++ with_number (codes ":hover) rect[class^=m]:not(.m") (m i) ++ codes "){opacity:.25}</style>\n"))
