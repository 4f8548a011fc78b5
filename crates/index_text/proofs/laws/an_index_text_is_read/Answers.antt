use Rattle.index_text.proofs.ReadBack.{read_back}
use Rattle.index_text.proofs.laws.an_index_text_is_read.Goals as goal

pub returns : goal.returns
returns c = read_back
