use Rattle.std.proofs.Common.{rules}
use Rattle.larch_actions.proofs.Sets.{some_out, within_in}
use Rattle.larch_actions.proofs.thread_set.ThreadSet.is_within.Goals as goal

pub returns-then-self-i-clause-some : goal.returns-then-self-i-clause-some
returns-then-self-i-clause-some c = λ _. some_out c.args.self.now.words c.args.other.now.words c.loop-i.i (search rules) (search rules) (search rules)

pub returns-clause-all : goal.returns-clause-all
returns-clause-all c = λ _. within_in c.args.self.now.words c.args.other.now.words (search rules)
