use Rattle.std.proofs.Common.{refl, inl, inr}
use denote.Exit.{unseen}
use denote.Param.Send.{Quiet-if, sendable}
use mir.Syntax.{of_param}
use Rattle.job_pool.specs.Crews.{IsReady}
use Rattle.job_pool.proofs.Lists.{each_weaker, zip_same, zip_weaker}
use Rattle.job_pool.proofs.crew.run_workers.Goals as goal

pub run_crew-done-requires-clause-jobs : goal.run_crew-done-requires-clause-jobs
run_crew-done-requires-clause-jobs g c κs within =
    each_weaker (IsReady c.args.p.now c.args.room) _
    (λ w ready. (
      ready,
      (
        record { owned = c.type_bounds.send-J.owned; leaving = λ k. Quiet-if {D = g.row.J.Denot} (k (of_param 0)) unseen unseen (λ y w. tt) (λ y w. tt) },
        search (sendable, c.type_bounds.sync-R) depth 20,
      ),
    ))
    c.args.workers.items c.requires.workers

pub returns-in-Ok : goal.returns-in-Ok
returns-in-Ok g c = zip_weaker _ _ (λ a b h. inr h) c.args.workers.items c.in-Ok.finished.results.items c.in-Ok.ensures.done

pub returns-in-Err : goal.returns-in-Err
returns-in-Err g c = zip_same _ c.args.workers.items c.in-Err.back.jobs.items (λ a. inl refl) c.in-Err.ensures.jobs_back
