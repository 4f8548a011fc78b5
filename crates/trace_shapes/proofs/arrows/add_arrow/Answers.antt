use Rattle.std.proofs.Common.{◌++◌, take, ◌∙◌}
use Rattle.trace_shapes.specs.Arrows.{tags_text, lets_go, arrow_text}
use Rattle.trace_shapes.proofs.Added.{added_two}
use Rattle.trace_shapes.proofs.arrows.add_arrow.Goals as goal

pub returns-clause-text : goal.returns-clause-text
unfolding arrow_text
returns-clause-text c =
    let old = take c.args.at c.args.buf.now in
    let k = c.args.link.now in
    let way = c.way_of-way.ensures in
    added_two old _ _ _ _ c.add_tags-at.ensures.text c.add_lets_go.ensures.text ∙ (λ i. old ++ (tags_text (way i) k.from ++ lets_go k.to))
