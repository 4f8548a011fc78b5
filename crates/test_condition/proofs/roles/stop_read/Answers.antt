use Rattle.std.proofs.Common.{◌∷◌, refl}
use Rattle.nub.proofs.Users.{idle_again}
use Rattle.readers_writers.specs.Roles.{turn_from_reading}
use Rattle.test_condition.proofs.roles.stop_read.Goals as goal

pub returns : goal.returns
returns g c = record {
  acts = λ n was.
      let e = c.end_read.ensures in
      let left = e.role was.share was.idle.share in
      let now = turn_from_reading 0 left.0 ∷ was.share in
      record { share = now; idle = idle_again c.args.pkg.now n was.share now c.args.me.now c.end_read.new.me was.idle e.rest e.same e.held left.1; acts = refl };
}
