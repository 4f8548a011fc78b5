use Rattle.std.proofs.Common.{rules}
use Rattle.larch_actions.proofs.Sets.{some_in}
use Rattle.larch_actions.proofs.thread_set.ThreadSet.is_empty.Goals as goal

pub returns-then-self-i-ne0-clause-some : goal.returns-then-self-i-ne0-clause-some
returns-then-self-i-ne0-clause-some c = λ _. some_in c.args.self.now.words c.loop-i.i (search rules) (search rules) (search rules)
