use Rattle.std.proofs.Common.{ℕ, ◌∷◌, [], subst}
use Rattle.firefly_threads.specs.Laws.{added, added_on}
use Rattle.firefly_threads.specs.Plays.{event, signal_action}
use Rattle.firefly_threads.specs.Rest.{Added}
use Rattle.example_race.proofs.run.arrive.Goals as goal

pub returns-clause-event : goal.returns-clause-event
returns-clause-event g c =
    let ran = c.locked_when.ensures.event in
    let woke = c.signal.ensures.event in (
      ran.0,
      woke.0,
      added_on _ _ _ _ _ (added _ _ _ _ ran.1)
          (subst (λ (n : ℕ). Added (event n (signal_action 1 woke.0) ∷ []) c.locked_when.new.me c.signal.new.me) c.locked_when.ensures.same.number (added _ _ _ _ woke.1)),
    )
