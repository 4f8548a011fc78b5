use Rattle.test_condition.proofs.Freeing.{free_done}
use Rattle.test_condition.proofs.work.in_turn.Goals as goal

pub returns : goal.returns
returns g c =
    let n = c.args.me.number in
    let one = c.put_one-first_put.ensures.free n c.requires.free in
    let two = c.put_one-second_put.ensures.free n one in
    let three = c.take_one-first_take.ensures.free n two in
    let four = c.shut_it.ensures.free n three in
    let five = c.put_one-late_put.ensures.free n four in
    let six = c.take_one-second_take.ensures.free n five in
    free_done c.args.pkg.now n c.take_one-last_take.new.me (c.take_one-last_take.ensures.free n six)
