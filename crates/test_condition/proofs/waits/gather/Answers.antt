use Rattle.std.proofs.Common.{[]}
use Rattle.nub.proofs.Users.{idle_done}
use Rattle.test_condition.proofs.waits.gather.Goals as goal

pub returns : goal.returns
returns g c = idle_done c.args.pkg.now c.args.me.number _ c.take_turn.new.me (c.take_turn.ensures.idle c.args.me.number [] c.requires.idle)
