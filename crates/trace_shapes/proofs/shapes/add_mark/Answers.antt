use Rattle.std.proofs.Common.{[], ◌∷◌, ◌++◌, take, ap, ◌∙◌}
use Rattle.std.specs.Prelude.{codes}
use Rattle.trace_shapes.specs.Looks.{look_of}
use Rattle.trace_shapes.specs.Shapes.{mark_text}
use Rattle.trace_shapes.proofs.Added.{added_five}
use Rattle.trace_shapes.proofs.shapes.add_mark.Goals as goal

pub returns-clause-text : goal.returns-clause-text
unfolding mark_text
returns-clause-text c =
    let old = take c.args.at c.args.buf.now in
    added_five _ _ _ _ _ _ _ _ _ (c.add_use-at.ensures.text ∙ ap (λ m. old ++ (codes "<use href='#" ++ (look_of m.mark).letter ∷ [])) c.requires.same) c.add_mark_place-at.ensures.text c.add_mark_id-at.ensures.text _ _ c.add_title-at.ensures.text c.add.ensures.text
