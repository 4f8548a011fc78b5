use Rattle.std.proofs.Common.{List, map, ap, sym, ◌∙◌, arith, suc, refl}
use Rattle.std.specs.Prelude.{remove}
use Rattle.std.proofs.lemmas.List.{length-map}
use lib.ListN.{get_elem?}
use Rattle.indexer.specs.declared.job.Job.{Job}
use Rattle.indexer.specs.Turns.{Worker}
use Rattle.indexer.proofs.CrewBack.{as_many, to_map, all_worked}
use Rattle.indexer.proofs.RunLaws.{at_first, past_first}
use Rattle.indexer.proofs.TreesLaws.{left_same, left_there, on_err_if}
use Rattle.indexer.proofs.run.crew.run_workers.Goals as goal

pub run_jobs-requires-clause-caller : goal.run_jobs-requires-clause-caller
run_jobs-requires-clause-caller g c κs within =
    let caller = c.remove-caller.result in
    (c.requires.threads 0 caller (at_first c.args.threads.items caller c.requires.caller c.remove-caller.ensures.value)).0

pub run_jobs-requires-clause-jobs : goal.run_jobs-requires-clause-jobs
run_jobs-requires-clause-jobs g c κs within = λ n x at.
    c.requires.threads (suc n) x.me (past_first c.args.threads.items n x.me
    (ap (λ (l : List Worker). get_elem? l n) (sym (c.in-Ok.ensures.jobs.made ∙ c.remove-caller.ensures.items)) ∙ to_map (λ (j : Job g.row.S.Denot). j.me) c.in-Ok.jobs.items n x at))

pub put_back-requires-clause-room : goal.put_back-requires-clause-room
put_back-requires-clause-room g c =
    let many = c.in_ok-jobs.ensures.jobs ∙ as_many c.in-Ok.jobs.items c.remove-caller.new.self.items c.in-Ok.ensures.jobs.made in
    let room = c.in_ok-room.ensures.capacity in
    let none = c.in_ok-room.ensures.len in
    let len = c.len.ensures in
    let less = c.remove-caller.ensures.len in
    let some = c.requires.caller in
    let jobs = c.in_ok-jobs.jobs.ok.0 in
    let threads = c.args.threads.ok.0 in
    let rest = c.remove-caller.new.self.ok.0 in
    omega arith

pub returns-clause-crew : goal.returns-clause-crew
returns-clause-crew g c =
    let S = g.S.Tree in
    let threads = c.args.threads.items in
    let jobs = c.in-Ok.jobs.items in
    let back = c.in_ok-jobs.jobs in
    let findings = c.in_ok-jobs.findings.items in
    let caller = c.in_ok-jobs.caller in
    let own = c.in-Ok.ensures.jobs in
    let ran = c.in_ok-jobs.ensures in
    let put = c.put_back.ensures in
    let following = map (λ (j : Job g.row.S.Denot). j.me) back.items in
    let others = own.made ∙ c.remove-caller.ensures.items in
    let long = length-map back.items (λ (j : Job g.row.S.Denot). j.me) in
    record {
      caller = c.remove-caller.result;
      is_caller = at_first threads c.remove-caller.result c.requires.caller c.remove-caller.ensures.value;
      last = caller;
      called = ran.caller;
      back = following;
      is_all = put.threads;
      many = long ∙ ran.jobs ∙ as_many jobs (remove threads 0) others;
      found = ran.findings ∙ sym (long ∙ ran.jobs);
      worked = all_worked S.tree S.may_fail S.faults S.calls c.args.root.now c.args.p.now c.args.walkers c.args.with_tree (remove threads 0) findings c.args.trees.now c.put_back.new.trees jobs back.items
          others own.roles
          (λ k d e below low. put.trees k d e below (let ok = back.ok in let same = ok.0 in omega arith))
          ran.each;
      others = λ i d h. put.others i d h ∙ own.others i d h;
    }

pub returns-in_err-room-clause-left : goal.returns-in_err-room-clause-left
returns-in_err-room-clause-left g c =
    let S = g.S.Tree in
    on_err_if c.from_residual.result (left_same S.tree S.may_fail S.faults S.calls c.args.root.now c.args.with_tree c.args.trees.now c.args.trees.now refl)

pub returns-in_default-clause-left : goal.returns-in_default-clause-left
returns-in_default-clause-left g c =
    let S = g.S.Tree in
    left_same S.tree S.may_fail S.faults S.calls c.args.root.now c.args.with_tree c.args.trees.now c.jobs_of.new.trees c.in_default.ensures.stay

pub returns-in_err-jobs-clause-left : goal.returns-in_err-jobs-clause-left
returns-in_err-jobs-clause-left g c =
    let S = g.S.Tree in
    let own = c.in-Ok.ensures.jobs in
    on_err_if c.from_residual-in_err-jobs.result (left_there S.tree S.may_fail S.faults S.calls c.args.root.now c.args.with_tree c.args.trees.now c.jobs_of.new.trees own.left own.others)
