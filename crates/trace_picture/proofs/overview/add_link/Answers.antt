use Rattle.std.proofs.Common.{[], ◌++◌, take, ap, ◌∙◌}
use Rattle.std.specs.Prelude.{codes}
use Rattle.trace_shapes.specs.Shapes.{with_number}
use Rattle.trace_picture.specs.Overview.{link_text}
use Rattle.trace_shapes.proofs.Added.{added_four}
use Rattle.trace_picture.proofs.overview.add_link.Goals as goal

pub returns-clause-text : goal.returns-clause-text
unfolding link_text
returns-clause-text c =
    let mid = take c.add_with_number-at-2.result c.add_with_number-at-2.new.buf in
    added_four _ _ _ _ _ _ _ _ [] c.add_with_number-at.ensures.text c.add_with_number-at-2.ensures.text (c.add_with_number-at-3.ensures.text ∙ ap (λ i. mid ++ with_number (codes " to ") i) c.saturating_sub.ensures) _ c.add.ensures.text
