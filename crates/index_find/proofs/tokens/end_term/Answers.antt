use Rattle.std.proofs.Common.{List, ap, reverse, sym, ◌∙◌}
use Rattle.index_find.specs.declared.tokens.Pending.{Pending}
use Rattle.index_find.specs.Taking.{Past}
use Rattle.index_find.proofs.Pendings.{ended-plain}
use Rattle.index_find.proofs.tokens.end_term.Goals as goal

pub returns-else-take_back : goal.returns-else-take_back
returns-else-take_back c =
    let steps = c.loop-steps.steps.items in
    let negated = c.loop-steps-test.ensures.last in
    let joined = c.if-take_back.ensures.last in
    ap (λ (ps : List Pending). Past (reverse ps) steps) (joined.0 ∙ negated.0)
    ∙ sym (ended-plain (reverse c.loop-steps.pending.items) steps negated.1 (λ qs e. joined.1 qs (ap reverse negated.0 ∙ e)))
    ∙ c.loop-steps.invariant
