use Rattle.std.proofs.Common.{◌++◌, take, ap, ◌∙◌}
use Rattle.larch_actions.specs.Rows.{word_text, kinds_of}
use Rattle.trace_core.specs.Text.{with_names, row_text}
use Rattle.trace_core.proofs.Added.{added_row}
use Rattle.trace_core.proofs.line_texts.add_action.Goals as goal

pub returns-clause-text : goal.returns-clause-text
returns-clause-text c =
    let r = c.row-row.result in
    let old = take c.args.at c.args.buf.now in
    let names = c.add_row_names-at.ensures.text ∙ ap (λ ks. with_names (take c.add-at.result c.add-at.new.buf) ks r.numbers) c.kinds.ensures in
    added_row old (word_text r.word) _ _ _ (kinds_of r.word) r.numbers r.ending (c.add-at.ensures.text ∙ ap (λ w. old ++ w) c.text.ensures.text) names c.add_ending.ensures.text
    ∙ ap (λ x. old ++ row_text x) c.row-row.ensures.row
