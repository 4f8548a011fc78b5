use Rattle.std.proofs.Common.{◌∙◌, sym}
use Rattle.larch_actions.proofs.Answered.{not_both}
use Rattle.script_search.proofs.board.parts.has_begun.Goals as goal

pub returns-then-lives : goal.returns-then-lives
returns-then-lives c = (
  (λ t. (c.lives.ensures.0 c.if-lives.true, sym c.pending.ensures ∙ c.is_same.ensures.0 t)),
  (λ h. c.is_same.ensures.1 (c.pending.ensures ∙ h.1)),
)

pub returns-else-lives : goal.returns-else-lives
returns-else-lives c = ((λ t. absurd (not_both c.lives.result c.if-lives.false t)), (λ h. c.lives.ensures.1 h.0))
