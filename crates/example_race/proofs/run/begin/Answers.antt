use Rattle.std.proofs.Common.{ℕ, ◌∷◌, [], subst}
use Rattle.firefly_threads.specs.Laws.{added, added_on}
use Rattle.firefly_threads.specs.Plays.{broadcast_action, event}
use Rattle.firefly_threads.specs.Rest.{Added}
use Rattle.example_race.proofs.run.begin.Goals as goal

pub returns-clause-event : goal.returns-clause-event
returns-clause-event g c =
    let woke = added _ _ _ _ c.broadcast.ensures.event in
    added_on _ _ _ _ _ (added _ _ _ _ c.locked.ensures.event)
    (subst (λ (n : ℕ). Added (event n (broadcast_action 0 []) ∷ []) c.locked.new.me c.broadcast.new.me) c.locked.ensures.same.number woke)
