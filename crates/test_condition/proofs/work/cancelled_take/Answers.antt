use Rattle.test_condition.proofs.Freeing.{free_done}
use Rattle.test_condition.proofs.work.cancelled_take.Goals as goal

pub test_alert-still-requires-clause-rest : goal.test_alert-still-requires-clause-rest
test_alert-still-requires-clause-rest g c κs within = (c.take_one-taken.ensures.free c.args.me.number c.requires.free).idle.rest

pub returns : goal.returns
returns g c =
    let n = c.args.me.number in
    let took = c.take_one-taken.ensures.free n c.requires.free in
    free_done c.args.pkg.now n c.test_alert-still.new.me (record { share = took.share; idle = c.test_alert-still.ensures.idle n took.share took.idle })
