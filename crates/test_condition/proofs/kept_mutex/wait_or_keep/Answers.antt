use Rattle.std.proofs.Common.{[]}
use Rattle.nub.proofs.Users.{idle_done}
use Rattle.test_condition.proofs.kept_mutex.wait_or_keep.Goals as goal

pub returns : goal.returns
returns g c = idle_done c.args.pkg.now c.args.me.number [] c.loop-time.me c.loop-time.invariant
