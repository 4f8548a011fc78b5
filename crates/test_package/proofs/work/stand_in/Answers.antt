use Rattle.std.proofs.Common.{[]}
use Rattle.nub.proofs.Users.{idle_done}
use Rattle.test_package.proofs.work.stand_in.Goals as goal

pub returns : goal.returns
returns g c = idle_done c.args.pkg.now c.args.me.number [] c.v.new.me (c.v.ensures.idle c.args.me.number [] (c.p.ensures.idle c.args.me.number [] c.requires.idle))
