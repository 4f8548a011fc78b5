use Rattle.std.proofs.Common.{◌≡◌, ◌++◌, ◌∙◌, ℕ, List, Option, Some, ap, sym, append_assoc}
use Rattle.std.specs.Prelude.{codes, decimal}
use Rattle.script_search.specs.Boards.{holder_of}
use Rattle.command_explore.specs.Waits.{holder_text}
use Rattle.command_explore.proofs.waits.push_holder.Goals as goal

held : (old new : List ℕ) (h : Option ℕ) (t : ℕ) → h ≡ Some t → new ≡ (old ++ codes ", held by t") ++ decimal t → new ≡ old ++ holder_text (holder_of h)
held old new h t is e = e ∙ (append_assoc old (codes ", held by t") (decimal t) ∙ ap (λ (z : Option ℕ). old ++ holder_text (holder_of z)) (sym is))

pub returns-in-Some-clause-bytes : goal.returns-in-Some-clause-bytes
returns-in-Some-clause-bytes c = held c.args.text.now.bytes _ c.args.holder c.in-Some.thread c.in-Some.is c.push_with_number.ensures.bytes
