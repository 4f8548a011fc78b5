use Rattle.std.proofs.Common.{◌≡◌, length, sym, ◌∙◌, arith}
use Rattle.word_index.proofs.Below.{below_back, same_texts}
use Rattle.word_index.proofs.join.order_at.Goals as goal

pub returns-else-j-len-clause-greater : goal.returns-else-j-len-clause-greater
returns-else-j-len-clause-greater c greater =
    let below = below_back c.get.result.now c.get-else-j-len.result.now (sym c.cmp.ensures ∙ greater) in
    (omega arith, λ _. rw (← c.get.ensures, ← c.get-else-j-len.ensures) below)

pub returns-else-j-len-clause-equal : goal.returns-else-j-len-clause-equal
returns-else-j-len-clause-equal c same =
    (omega arith, omega arith, sym c.get.ensures ∙ same_texts c.get.result.now c.get-else-j-len.result.now (sym c.cmp.ensures ∙ same) ∙ c.get-else-j-len.ensures)
