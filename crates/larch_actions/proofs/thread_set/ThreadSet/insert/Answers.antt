use Rattle.std.proofs.Common.{rules, ap}
use Rattle.larch_actions.specs.declared.thread_set.ThreadSet.{ThreadSet}
use Rattle.larch_actions.proofs.Sets.{put_in, grows}
use Rattle.larch_actions.proofs.thread_set.ThreadSet.insert.Goals as goal

pub returns-clause-list : goal.returns-clause-list
returns-clause-list c = λ xs e i. record { words = grows c.args.self.now.words c.args.t.0 (search rules) (search rules) xs (ap (λ (s : ThreadSet). s.words) e) i }

pub returns-clause-members : goal.returns-clause-members
returns-clause-members c = λ k. put_in c.args.self.now.words c.args.t.0 (search rules) (search rules) k
