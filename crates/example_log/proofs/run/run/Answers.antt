use Rattle.std.proofs.Common.{rules, ap, ◌∙◌}
use Rattle.firefly_threads.specs.Laws.{one_opens}
use Rattle.example_log.specs.Mails.{IsKept, begins}
use Rattle.example_log.proofs.Closing.{begins_kept, logged}
use Rattle.example_log.proofs.run.run.Goals as goal

pub run_package-requires-clause-holds : goal.run_package-requires-clause-holds
run_package-requires-clause-holds g c κs within =
    one_opens IsKept begins 4 _ begins_kept _ _ c.in_ok-mail.ensures.items (ap (λ l. l.threads) c.of-layout.ensures)

pub returns : goal.returns
returns g c =
    let done = c.in_ok-logs.ensures in
    let four = done.count.0 ∙ ap (λ l. l.threads) c.of-layout.ensures in
    let did = logged c.args.count _ _ _ _ done.worked four c.last-items.ensures in
    record { all = did.1 (search rules); shut = did.0 }
