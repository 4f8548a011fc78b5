use Rattle.word_index.proofs.Indexes.{index_of_both}
use Rattle.word_index.proofs.merges.merge.Goals as goal

pub returns-in-Ok-clause-index : goal.returns-in-Ok-clause-index
returns-in-Ok-clause-index c = λ fs gs a b. index_of_both fs gs _ _ _ a b c.in-Ok.ensures
