use Rattle.std.proofs.Common.{rules}
use Rattle.larch_actions.proofs.Sets.{taken_out}
use Rattle.larch_actions.proofs.thread_set.ThreadSet.remove.Goals as goal

pub returns : goal.returns
returns c = record { members = λ k. taken_out c.args.self.now.words c.args.t.0 (search rules) (search rules) (search rules) k }
