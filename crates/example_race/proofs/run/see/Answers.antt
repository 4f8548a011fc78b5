use Rattle.firefly_threads.specs.Laws.{added}
use Rattle.example_race.proofs.run.see.Goals as goal

pub returns-clause-event : goal.returns-clause-event
returns-clause-event g c = let ran = c.locked_when.ensures.event in (ran.0, added _ _ _ _ ran.1)
