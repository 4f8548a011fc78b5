use Rattle.std.proofs.Common.{◌≡◌, ◌∙◌, ap, sym, subst, Some, take}
use Rattle.std.specs.Option.{option_copied}
use Rattle.std.proofs.lemmas.List.{take_at}
use Rattle.index_text.specs.Lines.{is_path}
use Rattle.index_text.proofs.path.completes.Goals as goal

pub returns-clause-shows : goal.returns-clause-shows
returns-clause-shows c = subst (λ l. c.good-answer.result ≡ is_path (option_copied c.args.last) (Some l)) (c.deref.ensures.value ∙ c.in_ok-extend_from_slice.ensures.items) c.good-answer.ensures

pub returns-clause-kept : goal.returns-clause-kept
returns-clause-kept c =
    c.truncate.ensures.items ∙ ap (take c.len-start.result) c.in_ok-extend_from_slice.ensures.items
    ∙ take_at c.args.prefix.now.items c.args.more.now c.len-start.result (sym (c.len-start.ensures ∙ c.args.prefix.now.ok.0))
