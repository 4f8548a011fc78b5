use Rattle.firefly.proofs.OneIndex.{one_tree_index}
use Rattle.firefly.proofs.laws.one_index_of_a_tree.Goals as goal

pub returns : goal.returns
returns c = one_tree_index
