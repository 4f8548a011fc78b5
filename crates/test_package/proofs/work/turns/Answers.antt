use Rattle.std.proofs.Common.{[]}
use Rattle.nub.proofs.Users.{idle_done}
use Rattle.test_package.proofs.work.turns.Goals as goal

pub returns : goal.returns
returns g c = idle_done c.args.pkg.now c.args.me.number [] c.loop-i.me c.loop-i.invariant
