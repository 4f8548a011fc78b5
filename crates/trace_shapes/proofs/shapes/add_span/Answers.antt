use Rattle.std.proofs.Common.{[], ◌++◌, take, ◌∙◌}
use Rattle.std.specs.Prelude.{codes}
use Rattle.trace_shapes.specs.Shapes.{with_number, end_words, span_text}
use Rattle.trace_shapes.proofs.Added.{added_three}
use Rattle.trace_shapes.proofs.shapes.add_span.Goals as goal

pub returns-clause-text : goal.returns-clause-text
unfolding span_text
returns-clause-text c =
    let old = take c.args.at c.args.buf.now in
    let r = c.args.reach.now in
    let o = c.args.o.now in
    let thread = c.from.ensures in
    added_three old _ _ _ _ _ _ [] [] c.add_with_number-at.ensures.text c.add_with_number-at-2.ensures.text c.add_end_words.ensures.text
    ∙ (λ i. old ++ (with_number c.args.of.now (thread i) ++ with_number (codes " from event ") o.place ++ end_words r.ended r.to))
