use denote.Exit.{unseen}
use denote.Param.Send.{Quiet-if, sendable}
use mir.Syntax.{of_param}
use Rattle.indexer.proofs.run.crew.run_jobs.Goals as goal

pub at_once_beside-done-requires-clause-threads : goal.at_once_beside-done-requires-clause-threads
at_once_beside-done-requires-clause-threads g c κs within = λ n x at. (
  (c.requires.layout, c.requires.jobs n x at, c.requires.root),
  (
    record { owned = c.type_bounds.send-S.owned; leaving = λ k. Quiet-if {D = g.row.S.Denot} (k (of_param 1)) unseen unseen (λ y w. tt) (λ y w. tt) },
    search (sendable, c.type_bounds.sync-R) depth 20,
    search (sendable, c.type_bounds.sync-G) depth 20,
  ),
)
