use Rattle.std.proofs.Common.{ap}
use Rattle.example_countdown.proofs.Closing.{none_left, opens}
use Rattle.example_countdown.proofs.count.count.Goals as goal

pub run_package-requires-clause-holds : goal.run_package-requires-clause-holds
run_package-requires-clause-holds g c κs within =
    opens c.args.threads _ _ c.in_ok-left.ensures.items (ap (λ l. l.threads) c.of-layout.ensures)

pub returns : goal.returns
returns g c = none_left _ _ _ c.in_ok-closed.ensures.worked
