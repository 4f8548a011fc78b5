use Rattle.nub.proofs.Users.{idle_again}
use Rattle.test_condition.proofs.calls.put_one.Goals as goal

pub returns : goal.returns
returns g c = record {
  free = λ n free.
      let e = c.put.ensures in
      let ran = e.ran free.share free.idle.share in
      record { share = ran.share; idle = idle_again c.args.pkg.now n free.share ran.share c.args.me.now c.put.new.me free.idle e.rest e.same e.held ran.is_share };
}
