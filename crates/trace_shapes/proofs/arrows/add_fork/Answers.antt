use Rattle.std.proofs.Common.{◌++◌, take, ap, ◌∙◌}
use Rattle.trace_shapes.specs.Arrows.{straight, tags_text, forks, fork_text}
use Rattle.trace_shapes.proofs.Added.{added_two}
use Rattle.trace_shapes.proofs.arrows.add_fork.Goals as goal

pub returns-clause-text : goal.returns-clause-text
unfolding fork_text
returns-clause-text c =
    let old = take c.args.at c.args.buf.now in
    let way = c.straight-way.ensures ∙ ap straight c.link_at-link.ensures in
    added_two old _ _ _ _ c.add_tags-at.ensures.text c.add_forks.ensures.text ∙ (λ i. old ++ (tags_text (way i) c.args.o.now ++ forks c.args.u))
