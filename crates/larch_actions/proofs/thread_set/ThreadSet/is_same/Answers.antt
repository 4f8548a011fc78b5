use Rattle.std.proofs.Common.{rules}
use Rattle.larch_actions.proofs.Sets.{some_apart}
use Rattle.larch_actions.proofs.thread_set.ThreadSet.is_same.Goals as goal

pub returns-then-self-i-clause-some : goal.returns-then-self-i-clause-some
returns-then-self-i-clause-some c = λ _. some_apart c.args.self.now.words c.args.other.now.words c.loop-i.i (search rules) (search rules) (search rules) (search rules)
