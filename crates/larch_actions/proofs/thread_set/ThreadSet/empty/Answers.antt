use Rattle.larch_actions.proofs.Sets.{in_set-none}
use Rattle.larch_actions.proofs.thread_set.ThreadSet.empty.Goals as goal

pub returns-clause-members : goal.returns-clause-members
returns-clause-members c = λ t. in_set-none t
