use Rattle.std.proofs.Common.{[]}
use Rattle.test_fork.proofs.family.forked.Goals as goal

pub returns-clause-idle : goal.returns-clause-idle
returns-clause-idle g c = c.fork_thread.ensures.idle c.args.me.now.number [] c.requires.idle

pub fork_thread-requires-clause-named : goal.fork_thread-requires-clause-named
fork_thread-requires-clause-named g c κs within = c.requires.left.named
