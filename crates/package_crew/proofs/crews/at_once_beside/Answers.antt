use Rattle.std.proofs.Common.{length, arith, ap, ◌∙◌}
use Rattle.thread_crew.proofs.Zips.{zip_length}
use Rattle.package_crew.proofs.Pairs.{all_ready, as_many, came_back}
use Rattle.package_crew.proofs.crews.at_once_beside.Goals as goal

pub run_crew-requires-clause-jobs : goal.run_crew-requires-clause-jobs
run_crew-requires-clause-jobs g c κs within = all_ready _ c.args.threads.items c.requires.threads

pub split-threads-requires-clause-firsts : goal.split-threads-requires-clause-firsts
split-threads-requires-clause-firsts g c =
    let same = zip_length _ _ _ c.in-Ok-run_crew.ensures.done in
    let room = c.in-Ok.ensures.capacity in
    let count = c.len-count.ensures in
    (c.in-Ok.ensures.items, omega arith)

pub split-threads-requires-clause-seconds : goal.split-threads-requires-clause-seconds
split-threads-requires-clause-seconds g c =
    let same = zip_length _ _ _ c.in-Ok-run_crew.ensures.done in
    let room = c.in-Ok-with_capacity.ensures.capacity in
    let count = c.len-count.ensures in
    (c.in-Ok-with_capacity.ensures.items, omega arith)

pub returns-in-Ok-run_crew-clause-threads : goal.returns-in-Ok-run_crew-clause-threads
returns-in-Ok-run_crew-clause-threads g c =
    ap length c.split-threads.ensures.firsts ∙ as_many _ (λ p. p.0) c.args.threads.items c.in-Ok-run_crew.field-0.results.items c.in-Ok-run_crew.ensures.done

pub returns-in-Ok-run_crew-clause-results : goal.returns-in-Ok-run_crew-clause-results
returns-in-Ok-run_crew-clause-results g c =
    ap length c.split-threads.ensures.seconds ∙ as_many _ (λ p. p.1) c.args.threads.items c.in-Ok-run_crew.field-0.results.items c.in-Ok-run_crew.ensures.done

pub returns-in-Ok-run_crew-clause-each : goal.returns-in-Ok-run_crew-clause-each
returns-in-Ok-run_crew-clause-each g c =
    rw (c.split-threads.ensures.firsts, c.split-threads.ensures.seconds) (came_back _ c.args.threads.items c.in-Ok-run_crew.field-0.results.items c.in-Ok-run_crew.ensures.done)
