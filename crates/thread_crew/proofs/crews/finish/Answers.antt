use Rattle.std.proofs.Common.{arith}
use Rattle.thread_crew.proofs.Zips.{zip_length}
use Rattle.thread_crew.proofs.crews.finish.Goals as goal

pub between-between-requires : goal.between-between-requires
between-between-requires g c = c.requires.between

pub run_held-requires-clause-ready : goal.run_held-requires-clause-ready
run_held-requires-clause-ready g c = c.requires.ready

pub run_held-requires-clause-room : goal.run_held-requires-clause-room
run_held-requires-clause-room g c = c.requires.running

pub join_all-results-requires-clause-empty : goal.join_all-results-requires-clause-empty
join_all-results-requires-clause-empty g c = c.requires.results.empty

pub join_all-results-requires-clause-room : goal.join_all-results-requires-clause-room
join_all-results-requires-clause-room g c =
    let jobs = c.requires.ready.0 in
    let given = c.requires.ready.1 in
    let held = zip_length _ jobs _ given in
    let ran = zip_length _ jobs _ (c.run_held.ensures jobs given) in
    omega (arith, c.requires.results.room, held, ran, c.args.children.ok.0, c.run_held.result.ok.0)

pub returns-clause-results : goal.returns-clause-results
returns-clause-results g c = λ jobs given. c.join_all-results.ensures jobs (c.run_held.ensures jobs given)

pub returns-clause-between : goal.returns-clause-between
returns-clause-between g c = c.between-between.ensures
