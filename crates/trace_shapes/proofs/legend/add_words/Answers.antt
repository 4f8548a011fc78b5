use Rattle.std.proofs.Common.{[], ◌++◌, take, ap, ◌∙◌}
use Rattle.trace_shapes.specs.Legend.{words_text}
use Rattle.trace_shapes.proofs.Added.{added_three}
use Rattle.trace_shapes.proofs.legend.add_words.Goals as goal

pub returns-clause-text : goal.returns-clause-text
unfolding words_text
returns-clause-text c =
    let before = take c.add-at.result c.add-at.new.buf in
    added_three _ _ _ _ _ _ _ [] [] c.add-at.ensures.text (c.add-at-2.ensures.text ∙ ap (λ w. before ++ w) c.words_of.ensures.words) c.add.ensures.text
