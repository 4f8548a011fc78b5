use Rattle.std.proofs.Common.{arith, ap, ◌∙◌}
use Rattle.example_tickets.proofs.Selling.{all_said, all_sold, opens}
use Rattle.example_tickets.proofs.sale.sale.Goals as goal

pub run_package-requires-clause-holds : goal.run_package-requires-clause-holds
run_package-requires-clause-holds g c κs within = opens c.args.tickets c.of-layout.result.threads c.in_ok-left.left.items c.in_ok-left.ensures.items

pub returns : goal.returns
returns g c =
    let done = c.in_ok-sold.ensures in
    let many = done.count.0 ∙ ap (λ l. l.threads) c.of-layout.ensures in
    let some = c.requires.some.0 in
    let sums = all_sold c.args.tickets _ _ _ done.worked (omega arith) in
    record { count = many; sum = sums.0; none_left = sums.1; each = all_said c.args.tickets _ _ _ done.worked }
