use Rattle.std.proofs.Common.{[]}
use Rattle.nub.proofs.Users.{idle_done}
use Rattle.test_package.proofs.work.stand_by.Goals as goal

pub locked-requires-clause-callable : goal.locked-requires-clause-callable
locked-requires-clause-callable g c κs within = λ x fits. (fits tt [] c.requires.idle.world c.requires.idle.share).small

pub returns : goal.returns
returns g c = let answer = c.locked.ensures.idle c.args.me.number [] c.requires.idle in idle_done c.args.pkg.now c.args.me.number _ c.locked.new.me answer.4
