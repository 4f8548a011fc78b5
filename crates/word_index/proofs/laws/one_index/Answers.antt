use Rattle.word_index.proofs.Unique.{one_index as unique}
use Rattle.word_index.proofs.laws.one_index.Goals as goal

pub returns : goal.returns
returns c = unique
