use Rattle.readers_writers.specs.declared.role.Role.TheVariants.{Idle}
use Rattle.test_condition.proofs.Playing.{acting_done}
use Rattle.test_condition.proofs.late_writer.read_until_it_comes.Goals as goal

pub returns : goal.returns
returns g c = acting_done c.args.pkg.now c.args.me.number Idle c.loop-i.me c.loop-i.invariant
