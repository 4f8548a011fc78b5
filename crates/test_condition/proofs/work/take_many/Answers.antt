use Rattle.test_condition.proofs.Freeing.{free_done}
use Rattle.test_condition.proofs.work.take_many.Goals as goal

pub returns-in_default : goal.returns-in_default
returns-in_default g c =
    let n = c.args.me.number in
    free_done c.args.pkg.now n c.take_one.new.me (c.take_one.ensures.free n c.loop.invariant)
