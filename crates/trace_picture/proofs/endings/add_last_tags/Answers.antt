use Rattle.std.proofs.Common.{◌+◌, ◌++◌, [], take, ◌∙◌}
use Rattle.std.specs.Prelude.{codes}
use Rattle.trace_shapes.specs.Shapes.{with_number}
use Rattle.trace_picture.specs.Overview.{over_style}
use Rattle.trace_shapes.proofs.Added.{added_four}
use Rattle.trace_picture.proofs.endings.add_last_tags.Goals as goal

pub returns-clause-text : goal.returns-clause-text
returns-clause-text c =
    let old = take c.args.at c.args.buf.now in
    let holds = c.height_of_holds.ensures.height in
    let moved = c.height_above-moved.ensures.height in
    added_four old _ _ _ _ _ _ _ [] c.add_with_number-at.ensures.text c.add_with_number-at-2.ensures.text c.add_with_number-at-3.ensures.text _ c.add_over_style.ensures.text
    ∙ (λ i. old ++ (with_number (codes "<style>:root{height:") (c.args.low + 14 + holds i + moved i + c.args.high) ++ with_number (codes "px}.s{transform:translate(0,") c.args.high ++ with_number (codes "px)}.w{transform:translate(0,") (moved i) ++ over_style c.args.layout.now c.args.view.now c.args.count))
