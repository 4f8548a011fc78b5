use Rattle.nub.proofs.Users.{idle_again}
use Rattle.test_condition.proofs.calls.shut_it.Goals as goal

pub returns : goal.returns
returns g c = record {
  free = λ n free.
      let e = c.shut.ensures in
      let did = e.shut free.share free.idle.share in
      record { share = did.share; idle = idle_again c.args.pkg.now n free.share did.share c.args.me.now c.shut.new.me free.idle e.rest e.same e.held did.is_share };
}
