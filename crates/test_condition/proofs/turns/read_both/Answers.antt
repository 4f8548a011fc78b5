use Rattle.readers_writers.specs.declared.role.Role.TheVariants.{Idle}
use Rattle.test_condition.proofs.Playing.{acting_done}
use Rattle.test_condition.proofs.turns.read_both.Goals as goal

pub returns : goal.returns
returns g c =
    let p = c.args.pkg.now in
    let one = c.stop_read.ensures.acts 0 (c.start_read.ensures.acts 0 c.requires.acts.0) in
    let two = c.stop_read-2.ensures.acts 1 (c.start_read-2.ensures.acts 1 c.requires.acts.1) in
    let wrote = c.stop_write.ensures.acts 1 (c.start_write.ensures.acts 1 two) in
    (acting_done p 0 Idle c.stop_read.new.me one, acting_done p 1 Idle c.stop_write.new.me wrote)
